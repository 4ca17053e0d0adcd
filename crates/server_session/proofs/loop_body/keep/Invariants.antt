use Rattle.acl.specs.declared.leaders.Edition.TheVariants.{Second}
use Rattle.server_session.proofs.loop_body.keep.Given as goal

abbrev pub ghosts-keep_as-L-Ledger : goal.ghosts-keep_as-L-Ledger
ghosts-keep_as-L-Ledger g a = record { name = a.parts.blank.name; parts = a.parts.blank.parts }

abbrev pub ghosts-keep_as-L-Begun : goal.ghosts-keep_as-L-Begun
ghosts-keep_as-L-Begun g a = record { edition = Second; owner = a.parts.owner }
