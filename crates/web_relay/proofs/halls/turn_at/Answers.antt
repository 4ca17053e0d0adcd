use Rattle.std.proofs.Common.{sym}
use Rattle.web_relay.specs.Halls.{HallTurns}
use Rattle.web_relay.proofs.Turns.{changed_there}
use Rattle.web_relay.proofs.halls.turn_at.Goals as goal

pub returns-in-Some-clause-at : goal.returns-in-Some-clause-at
returns-in-Some-clause-at g c =
    changed_there (HallTurns g.S.WebStream) c.args.halls.now c.args.place c.in-Some.hall.now c.turn.new.self
    (sym c.in-Some.ensures.value) c.turn.ensures
