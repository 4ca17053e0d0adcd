use Rattle.std.proofs.Common.{Ok, Result, subst}
use Rattle.std.specs.Prelude.{⊤}
use Rattle.std.specs.declared.io.Error.{Error}
use Rattle.server_turns.specs.Beginning.{Sleeps, TakesIn}
use Rattle.server_turns.specs.Course.{course_of}
use Rattle.server_turns.proofs.turner.Turner.begin.Goals as goal

pub returns-in-Err-take_in : goal.returns-in-Err-take_in
returns-in-Err-take_in g c = (
  Ok c.in_default.field-0,
  course_of c.sleep.new.self,
  subst (λ (r : Result ⊤ Error). Sleeps g.A.Around.does (course_of c.args.self.now) r (course_of c.sleep.new.self))
      c.in_default.is c.sleep.ensures,
  (
    c.take_time-now.result,
    record {
      timed = course_of c.take_time-now.new.self;
      times = c.take_time-now.ensures;
      sorted = course_of c.sort.new.self;
      sorts = c.sort.ensures;
      takes = subst (λ (r : Result ⊤ Error). TakesIn g.J.SessionSeat g.S.PeerStream g.A.Around.does g.A.Around.wires
          (course_of c.sort.new.self) r (course_of c.take_in.new.self)) c.in-Err-take_in.is c.take_in.ensures;
    },
  ),
)
