use Rattle.acl.specs.declared.leaders.Edition.TheVariants.{Second}
use Rattle.hub_tests.proofs.shared.equal_entries_share_a_form.Given as goal

abbrev pub ghosts-counted-L-Ledger : goal.ghosts-counted-L-Ledger
ghosts-counted-L-Ledger g a = record { name = a.blank.name; parts = a.blank.parts }

abbrev pub ghosts-counted-L-Begun : goal.ghosts-counted-L-Begun
ghosts-counted-L-Begun g a = record { edition = Second; owner = a.owner }
