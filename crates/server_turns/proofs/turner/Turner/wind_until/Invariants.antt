use Rattle.std.proofs.Common.{true, Ok}
use Rattle.server_turns.specs.Course.{course_of}
use Rattle.server_turns.specs.Turns.{WindsOn}
use Rattle.server_turns.proofs.Counting.{Done}
use Rattle.server_turns.proofs.turner.Turner.wind_until.Given as goal

abbrev pub invariant-pauses : goal.invariant-pauses
invariant-pauses g l = Done
    (λ count was now. WindsOn g.J.SessionSeat g.S.PeerStream g.A.Around.does l.end count was (Ok true) now) l.count
    (course_of l.fn.self) (course_of l.self)
