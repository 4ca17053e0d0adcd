use Rattle.server_loop.proofs.Vocabulary.{◌-◌, ServesOnce, state_of, Repeats}
use Rattle.server_loop.proofs.own.Loop.serve_often.Given as goal

-- whatever comes of the other ones, it comes of all
abbrev pub invariant-reads : goal.invariant-reads
invariant-reads g l = (new : _)
    → Repeats (ServesOnce g.J.SessionSeat g.S.PeerStream l.key) (16 - l.counter) (state_of l.self) new
    → Repeats (ServesOnce g.J.SessionSeat g.S.PeerStream l.key) 16 (state_of l.fn.self) new
