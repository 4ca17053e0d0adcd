use Rattle.server_loop.proofs.Vocabulary.{drop, HandsAll, state_of}
use Rattle.server_loop.proofs.own.Loop.hand_all.Given as goal

-- whatever the rest of the effects makes of it, all of them do
abbrev pub invariant-effects : goal.invariant-effects
invariant-effects g l = (new : _)
    → HandsAll g.J.SessionSeat (drop l.sent-index l.effects) (state_of l.self) new
    → HandsAll g.J.SessionSeat l.effects (state_of l.fn.self) new
