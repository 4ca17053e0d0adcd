use Rattle.acl.specs.declared.leaders.Edition.TheVariants.{Second}
use Rattle.hub_ledger.proofs.ledger.turned.first_wrong.Given as goal

abbrev pub ghosts-filed-L-Ledger : goal.ghosts-filed-L-Ledger
ghosts-filed-L-Ledger a = record { name = a.blank.name; parts = a.blank.parts }

abbrev pub ghosts-filed-L-Begun : goal.ghosts-filed-L-Begun
ghosts-filed-L-Begun a = record { edition = Second; owner = a.owner }
