-- What is written to one connection, and what goes out of what waits for it.
use Rattle.std.specs.Prelude.{◌≡◌, ◌⊎◌, ◌<◌, ℕ, Bool, true, false, List, [], Option, Some, None, length}
use Rattle.acl.specs.declared.user_id.UserId.{UserId}
use Rattle.slab.specs.Slab.{get}
use Rattle.server_connections.specs.Lending.{awoken, touched}
use Rattle.server_connections.specs.Life.{wanted_draw}
use Rattle.server_connections.specs.Peers.{is_closed, listens}
use Rattle.server_connections.specs.Streaming.{IsFull, IsWrittenTo, WritesAll}
use Rattle.server_connections.specs.declared.connections.Connections.{Connections}
use Rattle.server_connections.specs.declared.peer.Peer.{Peer}
use Rattle.server_connections.specs.declared.peer.Stage.TheVariants as stage
use Rattle.server_connections.specs.declared.peer_stream.PeerStream.{Ghosts as Streams}
use Rattle.server_sending.specs.Written.{without_typed}
use Rattle.server_sending.specs.declared.typists.TypedFrame.{TypedFrame}

module _ {S : Type 0} where
  -- What waits was written, write after write, until it takes no more for now: of what was put, its stream holds what
  -- was written. Nothing is done if it took no more before, and no event told of room since.
  pub record IsWrittenOut (streams : Streams S) (old new : Peer S) : Type 0 where
    pub full : IsFull old → new ≡ old
    pub writes : IsFull old ⊎ WritesAll streams.writes old new
    pub written : (put : List ℕ) → IsWrittenTo streams.holds put old → IsWrittenTo streams.holds put new

  -- the connection of a key was written to, and no other one; it is known whether it was closed
  abbrev pub WritesAt : Streams S → ℕ → Connections S → Bool → Connections S → Type 0
  WritesAt streams key old closed new =
      ((get old.peers key ≡ None) × (closed ≡ false) × (new ≡ awoken old key))
      ⊎ ((peer : Peer S) × (left : Peer S) × (get old.peers key ≡ Some peer) × IsWrittenOut streams peer left
      × (closed ≡ is_closed left.stage) × (new ≡ touched old key left))

  -- the frames that wait for it and that users typed
  abbrev pub frames_at : Option (Peer S) → List TypedFrame
  frames_at None = []
  frames_at (Some peer) = peer.turn.typed

  -- those of a user are taken out
  abbrev pub without_user : UserId → Peer S → Peer S
  without_user user peer = record peer { turn = without_typed user peer.turn }

  -- more than a megabyte waits for it
  abbrev pub IsLaggard : Peer S → Type 0
  IsLaggard peer = (listens peer.stage ≡ true) × (1048576 < length peer.turn.unsent)

  -- it is closed once it takes no more
  abbrev pub cut : Peer S → Peer S
  cut peer = record peer { stage = stage.Cut }

  -- the client of a key whose draw is to be asked for
  abbrev pub wanting : Option (Peer S) → Option ℕ
  wanting None = None
  wanting (Some peer) = wanted_draw peer
