-- All connections are told of a step.
use Rattle.std.specs.Prelude.{ℕ, true, Option, Some, None}
use Rattle.slab.specs.Slab.{Slab, get, with_value}
use Rattle.server_connections.specs.declared.peer.Peer.{Peer}

module _ {S : Type 0} where
  -- one that was told of a step other than a draw
  abbrev pub told : Peer S → Peer S
  told peer = record peer { turn = record peer.turn { told = true } }

  abbrev pub told_if_any : Option (Peer S) → Option (Peer S)
  told_if_any None = None
  told_if_any (Some peer) = Some (told peer)

  abbrev pub told_with : Option (Peer S) → Slab (Peer S) → ℕ → Slab (Peer S)
  told_with None peers key = peers
  told_with (Some peer) peers key = with_value peers key (told peer)

  -- the one of this key was told
  abbrev pub told_at : Slab (Peer S) → ℕ → Slab (Peer S)
  told_at peers key = told_with (get peers key) peers key
