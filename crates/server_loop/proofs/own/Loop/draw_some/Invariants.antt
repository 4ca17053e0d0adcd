use Rattle.server_loop.proofs.Vocabulary.{◌-◌, DrawsFrom, state_of}
use Rattle.server_loop.proofs.own.Loop.draw_some.Given as goal

-- whatever the rest of the keys makes of it, all of them do
abbrev pub invariant-keys : goal.invariant-keys
invariant-keys g l = (next : _) (new : _)
    → DrawsFrom g.J.SessionSeat (l.key-end - l.key) l.key l.left (state_of l.self) next new
    → DrawsFrom g.J.SessionSeat (l.fn.self.connections.peers.capacity - l.fn.from) l.fn.from 16
    (state_of l.fn.self) next new
