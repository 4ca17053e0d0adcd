use Rattle.std.proofs.Common.{ℕ, None, Ok}
use Rattle.server_turns.specs.Course.{course_of}
use Rattle.server_turns.specs.Rounds.{GoesRound}
use Rattle.server_turns.specs.Steps.{Many}
use Rattle.server_turns.proofs.turner.Turner.take_turns.Given as goal

abbrev pub invariant-rounds : goal.invariant-rounds
invariant-rounds g l = (count : ℕ) × Many (λ number was now.
    GoesRound g.J.SessionSeat g.S.PeerStream g.A.Around.does g.A.Around.wires was (Ok None) now) count
    (course_of l.fn.self) (course_of l.self)
