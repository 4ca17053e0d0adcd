use Rattle.hub_tests.proofs.editions.judge.Given as goal

abbrev pub ghosts-trail_of-L-Ledger : goal.ghosts-trail_of-L-Ledger
ghosts-trail_of-L-Ledger g a = record { name = a.blank.name; parts = a.blank.parts }

abbrev pub ghosts-trail_of-L-Begun : goal.ghosts-trail_of-L-Begun
ghosts-trail_of-L-Begun g a = record { edition = a.whose.edition; owner = a.whose.owner }
