-- What is put for a client or a window goes into its connection.
use Rattle.std.specs.Prelude.{◌≡◌, ◌⊎◌, ◌+◌, ℕ, Some}
use Rattle.slab.specs.Slab.{get, with_value}
use Rattle.server_connections.specs.Marked.{with_mark}
use Rattle.server_connections.specs.Peers.{IsAt, IsFirstFrom}
use Rattle.server_sending.specs.Written.{Waiting}
use Rattle.server_connections.specs.declared.connections.Connections.{Connections}
use Rattle.server_connections.specs.declared.peer.Peer.{Peer}
use Rattle.server_connections.specs.declared.peer.Role.{Role}

module _ {S : Type 0} where
  -- this was put after what waits for the first connection of a role, which is awake; no other connection changed
  pub record IsPutAt (old : Connections S) (role : Role) (puts : Waiting → Waiting → Type 0) (new : Connections S)
      (key : ℕ)
      : Type 0 where
    pub first : IsFirstFrom old.peers role old.next key
    pub peer : Peer S
    pub was : get old.peers key ≡ Some peer
    pub turn : Waiting
    pub put : puts peer.turn turn
    pub new_is : new ≡ record old {
      peers = with_value old.peers key (record peer { turn = turn });
      awake = with_mark old.awake key;
      next = key + 1;
    }

  -- no connection has this role, or it was put into that connection alone
  abbrev pub PutsFor : Connections S → Role → (Waiting → Waiting → Type 0) → Connections S → Type 0
  PutsFor old role puts new =
      (((key : ℕ) → ¬ (IsAt old.peers role key)) × (new ≡ old)) ⊎ ((key : ℕ) × IsPutAt old role puts new key)
