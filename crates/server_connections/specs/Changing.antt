-- One connection is changed: by its key, or the first one of a role.
use Rattle.std.specs.Prelude.{◌≡◌, ◌⊎◌, ◌+◌, ℕ, Bool, true, false, Option, Some, None, if◌then◌else◌}
use Rattle.attach_proto.specs.declared.why.Why.{Why}
use Rattle.slab.specs.Slab.{get, with_value}
use Rattle.server_connections.specs.Lending.{awoken, touched}
use Rattle.server_connections.specs.Life.{dismissed, left}
use Rattle.server_connections.specs.Marked.{with_mark}
use Rattle.server_connections.specs.Peers.{IsAt, IsFirstFrom, listens}
use Rattle.server_sending.specs.Written.{Waiting}
use Rattle.server_connections.specs.declared.connections.Connections.{Connections}
use Rattle.server_connections.specs.declared.peer.Peer.{Peer}
use Rattle.server_connections.specs.declared.peer.Role.{Role}
use Rattle.server_connections.specs.declared.peer.Role.TheVariants as role
use Rattle.server_connections.specs.declared.peer.Stage.TheVariants as stage

module _ {S : Type 0} where
  abbrev pub changed_if : (Peer S → Peer S) → Option (Peer S) → ℕ → Connections S → Connections S
  changed_if change None key s = awoken s key
  changed_if change (Some peer) key s = touched s key (change peer)

  -- the connection of a key is changed so, if there is one; the key is awake, and no other connection changes
  abbrev pub changed : (Peer S → Peer S) → ℕ → Connections S → Connections S
  changed change key s = changed_if change (get s.peers key) key s

  -- it is told to go, and the session is to be told that it left
  abbrev pub expelled : Why → Peer S → Peer S
  expelled cause peer = left (dismissed cause peer)

  -- it is told to go, if it wasn't before
  abbrev pub told_to_go : Why → Peer S → Peer S
  told_to_go cause peer = if listens peer.stage then dismissed cause peer else peer

  -- the session was told that it left
  abbrev pub known_gone : Peer S → Peer S
  known_gone peer = record peer { leaves = role.Stranger }

  -- it asked to go: the session is to be told, and answers by the effect that ends it
  abbrev pub asked_to_go : Peer S → Peer S
  asked_to_go peer = record peer { stage = stage.Leaving; leaves = peer.role }

  -- its client was drawn
  abbrev pub drawn : Peer S → Peer S
  drawn peer = record peer { turn = record peer.turn { told = false } }

  -- the session ended it: it is told why, and is nothing to the session any more
  abbrev pub ended_by : Why → Peer S → Peer S
  ended_by cause peer = record (dismissed cause peer) { role = role.Stranger }

  -- the first connection of a role was told so; no other one changed
  pub record IsLetGo (old : Connections S) (role : Role) (cause : Why) (new : Connections S) (key : ℕ) : Type 0 where
    pub first : IsFirstFrom old.peers role old.next key
    pub peer : Peer S
    pub was : get old.peers key ≡ Some peer
    pub new_is : new ≡ record old {
      peers = with_value old.peers key (ended_by cause peer);
      awake = with_mark old.awake key;
      next = key + 1;
    }

  -- no connection has this role, or it was told so
  abbrev pub LetsGo : Connections S → Role → Why → Connections S → Type 0
  LetsGo old role cause new =
      (((key : ℕ) → ¬ (IsAt old.peers role key)) × (new ≡ old)) ⊎ ((key : ℕ) × IsLetGo old role cause new key)

  -- this was put after what waits for the connection of a key, which is sent what the session says; no other one
  -- changed
  pub record IsPutInto (old : Connections S) (key : ℕ) (puts : Waiting → Waiting → Type 0) (new : Connections S)
      : Type 0 where
    pub peer : Peer S
    pub was : get old.peers key ≡ Some peer
    pub listens_now : listens peer.stage ≡ true
    pub turn : Waiting
    pub put : puts peer.turn turn
    pub new_is : new ≡ touched old key (record peer { turn = turn })

  -- a connection has this key, and is sent what the session says
  abbrev pub hears : Option (Peer S) → Bool
  hears None = false
  hears (Some peer) = listens peer.stage
