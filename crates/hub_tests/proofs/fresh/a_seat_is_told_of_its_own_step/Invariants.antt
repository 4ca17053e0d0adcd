use Rattle.acl.specs.declared.leaders.Edition.TheVariants.{Second}
use Rattle.hub_tests.proofs.fresh.a_seat_is_told_of_its_own_step.Given as goal

abbrev pub ghosts-is_fresh-L-Ledger : goal.ghosts-is_fresh-L-Ledger
ghosts-is_fresh-L-Ledger g a = record { name = a.blank.name; parts = a.blank.parts }

abbrev pub ghosts-is_fresh-L-Begun : goal.ghosts-is_fresh-L-Begun
ghosts-is_fresh-L-Begun g a = record { edition = Second; owner = a.owner }
