use Rattle.std.proofs.Common.{◌≤◌, ◌<◌, ℕ}
use Rattle.server_connections.specs.Marked.{IsMarked}
use Rattle.server_connections.specs.Peers.{AwaitsAt}
use Rattle.server_connections.proofs.connections.Connections.any_awaits.Given as goal

-- none before this key waits for it, and a round looks at one key at least
abbrev pub invariant-keys : goal.invariant-keys
invariant-keys g l =
    (l.counter ≤ l.from)
    × ((k : ℕ) → k < l.from → IsMarked l.self.awake k → ¬ (AwaitsAt l.self.peers l.what k))
