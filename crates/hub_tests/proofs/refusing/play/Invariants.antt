use Rattle.acl.specs.declared.leaders.Edition.TheVariants.{Second}
use Rattle.hub_tests.proofs.refusing.play.Given as goal

abbrev pub ghosts-played-L-Ledger : goal.ghosts-played-L-Ledger
ghosts-played-L-Ledger a = record { name = a.blank.name; parts = a.blank.parts }

abbrev pub ghosts-played-L-Begun : goal.ghosts-played-L-Begun
ghosts-played-L-Begun a = record { edition = Second; owner = a.owner }
