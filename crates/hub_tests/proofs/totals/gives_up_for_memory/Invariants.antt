use Rattle.acl.specs.declared.leaders.Edition.TheVariants.{Second}
use Rattle.hub_tests.proofs.totals.gives_up_for_memory.Given as goal

abbrev pub ghosts-four-L-Ledger : goal.ghosts-four-L-Ledger
ghosts-four-L-Ledger g a = record { name = a.blank.name; parts = a.blank.parts }

abbrev pub ghosts-four-L-Begun : goal.ghosts-four-L-Begun
ghosts-four-L-Begun g a = record { edition = Second; owner = a.owner }
