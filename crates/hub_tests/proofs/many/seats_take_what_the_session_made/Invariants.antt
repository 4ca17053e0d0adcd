use Rattle.acl.specs.declared.leaders.Edition.TheVariants.{Second}
use Rattle.hub_tests.proofs.many.seats_take_what_the_session_made.Given as goal

abbrev pub ghosts-is_thousand_right-L-Ledger : goal.ghosts-is_thousand_right-L-Ledger
ghosts-is_thousand_right-L-Ledger g a = record { name = a.blank.name; parts = a.blank.parts }

abbrev pub ghosts-is_thousand_right-L-Begun : goal.ghosts-is_thousand_right-L-Begun
ghosts-is_thousand_right-L-Begun g a = record { edition = Second; owner = a.owner }
