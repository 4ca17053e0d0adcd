use Rattle.std.proofs.Common.{true, false}
use Rattle.server_turns.specs.Beginning.{TakesEvent}
use Rattle.server_turns.specs.Course.{course_of}
use Rattle.server_turns.proofs.Counting.{Done}
use Rattle.server_turns.proofs.turner.Turner.sort.Given as goal

abbrev pub invariant-events : goal.invariant-events
invariant-events g l = Done (λ count was now. TakesEvent g.A.Around.does was true now) l.counter
    (record (course_of l.fn.self) { is_asked = false }) (course_of l.self)
