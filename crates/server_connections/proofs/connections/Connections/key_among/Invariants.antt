use Rattle.std.proofs.Common.{◌≤◌, ◌<◌, ℕ}
use Rattle.server_connections.specs.Peers.{IsAt}
use Rattle.server_connections.proofs.connections.Connections.key_among.Given as goal

-- none before this key is it
abbrev pub invariant-keys : goal.invariant-keys
invariant-keys g l = (k : ℕ) → l.from ≤ k → k < l.key → ¬ (IsAt l.self.peers l.role k)
