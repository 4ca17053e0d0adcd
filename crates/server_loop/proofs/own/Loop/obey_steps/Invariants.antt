use Rattle.server_loop.proofs.Vocabulary.{◌-◌, Steps, state_of, Repeats}
use Rattle.server_loop.proofs.own.Loop.obey_steps.Given as goal

-- whatever comes of the other ones, it comes of all
abbrev pub invariant-steps : goal.invariant-steps
invariant-steps g l = (new : _)
    → Repeats (Steps g.J.SessionSeat l.key) (8 - l.counter) (state_of l.self) new
    → Repeats (Steps g.J.SessionSeat l.key) 8 (state_of l.fn.self) new
