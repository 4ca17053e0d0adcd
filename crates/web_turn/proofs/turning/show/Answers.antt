use Rattle.web_turn.proofs.turning.show.Goals as goal

pub returns : goal.returns
returns g c = record { shown = c.show.new.relay; shows = c.show.ensures; writes = c.write_all.ensures }
