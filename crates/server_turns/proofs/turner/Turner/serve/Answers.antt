use Rattle.std.proofs.Common.{Result, subst}
use Rattle.std.specs.Prelude.{⊤}
use Rattle.std.specs.declared.io.Error.{Error}
use Rattle.server_turns.specs.Course.{course_of}
use Rattle.server_turns.specs.Rounds.{Serves}
use Rattle.server_turns.proofs.turner.Turner.serve.Goals as goal

pub returns-in-Ok-clause-ok : goal.returns-in-Ok-clause-ok
returns-in-Ok-clause-ok g c = (
  course_of c.serve_if.new.self,
  c.into_seat.ensures,
  subst (λ (r : Result ⊤ Error). Serves g.J.SessionSeat g.S.PeerStream g.A.Around.does g.A.Around.wires
      (course_of c.args.self) r (course_of c.serve_if.new.self)) c.in-Ok.is c.serve_if.ensures,
)

pub returns-in-Err-clause-err : goal.returns-in-Err-clause-err
returns-in-Err-clause-err g c = (
  course_of c.serve_if.new.self,
  subst (λ (r : Result ⊤ Error). Serves g.J.SessionSeat g.S.PeerStream g.A.Around.does g.A.Around.wires
      (course_of c.args.self) r (course_of c.serve_if.new.self)) c.in-Err.is c.serve_if.ensures,
)
