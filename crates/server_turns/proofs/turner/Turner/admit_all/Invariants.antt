use Rattle.std.proofs.Common.{true}
use Rattle.server_turns.specs.Beginning.{AdmitsNext}
use Rattle.server_turns.specs.Course.{course_of}
use Rattle.server_turns.proofs.Counting.{Done}
use Rattle.server_turns.proofs.turner.Turner.admit_all.Given as goal

abbrev pub invariant-handed : goal.invariant-handed
invariant-handed g l = Done (λ count was now.
    AdmitsNext g.J.SessionSeat g.S.PeerStream g.A.Around.does g.A.Around.wires was true now) l.counter
    (course_of l.fn.self) (course_of l.self)
