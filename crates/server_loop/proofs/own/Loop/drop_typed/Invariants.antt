use Rattle.server_loop.proofs.Vocabulary.{◌-◌, state_of, DropsAfter}
use Rattle.server_loop.specs.Writing.{DropsAll}
use Rattle.server_loop.proofs.own.Loop.drop_typed.Given as goal

-- whatever comes of the other users' frames, it comes of all
abbrev pub invariant-typists : goal.invariant-typists
invariant-typists g l = (new : _)
    → DropsAfter g.J.SessionSeat (4294967295 - l.counter) l.key l.window l.last (state_of l.self) new
    → DropsAll g.J.SessionSeat l.key l.window (state_of l.fn.self) new
