use Rattle.std.proofs.Common.{◌≡◌, ◌≤◌, ◌<◌, ℕ}
use Rattle.slab.specs.Slab.{get}
use Rattle.server_connections.specs.Telling.{told_if_any}
use Rattle.server_connections.proofs.connections.Connections.tell.Given as goal

-- those before this key were told
abbrev pub invariant-keys : goal.invariant-keys
invariant-keys g l =
    ((k : ℕ) → k < l.key → get l.self.peers k ≡ told_if_any (get l.fn.self.peers k))
    × ((k : ℕ) → l.key ≤ k → get l.self.peers k ≡ get l.fn.self.peers k)
    × (l.self ≡ record l.fn.self { peers = record l.fn.self.peers { slots = l.self.peers.slots } })
