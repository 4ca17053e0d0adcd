-- How a connection ends, what it is told, and when it is drawn.
use Rattle.std.specs.Prelude.{◌==◌, ◌&&◌, ℕ, length, Option, Some, None, option_map, if◌then◌else◌}
use Rattle.attach_proto.specs.Spelling.{spelling}
use Rattle.attach_proto.specs.declared.message.Message.TheVariants as message
use Rattle.attach_proto.specs.declared.why.Why.{Why}
use Rattle.session.specs.Trace.{EventValue, Detach, Closed}
use Rattle.server_connections.specs.Peers.{is_stranger, is_open, listens}
use Rattle.server_sending.specs.Written.{ended}
use Rattle.server_seat.specs.declared.news.Guest.{Guest}
use Rattle.server_connections.specs.declared.peer.Peer.{Peer}
use Rattle.server_connections.specs.declared.peer.Role.{Role}
use Rattle.server_connections.specs.declared.peer.Role.TheVariants as role
use Rattle.server_connections.specs.declared.peer.Stage.TheVariants as stage

-- the event by which a client or a window leaves the session
abbrev pub parting : Role → Option EventValue
parting role.Stranger = None
parting (role.Client client) = Some (Detach client)
parting (role.Window window) = Some (Closed window)

-- the client of a role
abbrev pub client_of : Role → Option ℕ
client_of (role.Client client) = Some client
client_of other = None

module _ {S : Type 0} where
  -- its role is over, of which the session is to be told
  abbrev pub left : Peer S → Peer S
  left peer =
      if is_stranger peer.role then peer
      else record peer { leaves = peer.role; role = role.Stranger }

  -- it is given up
  abbrev pub given_up : Peer S → Peer S
  given_up peer = left (record peer { stream = None; stage = stage.Closed })

  -- its last frame, GONE, was put
  abbrev pub dismissed : Why → Peer S → Peer S
  dismissed cause peer = record peer {
    turn = ended (spelling (message.Gone cause)) peer.turn;
    why = Some cause;
    stage = stage.Ending;
    awaited = None;
  }

  -- the client whose draw is to be asked for: all was written, and a step was made since the last draw
  abbrev pub wanted_draw : Peer S → Option ℕ
  wanted_draw peer =
      if is_open peer.stage && (peer.turn.told && (length peer.turn.unsent == 0))
      then client_of peer.role else None

  -- the guest that went, and why it was told to go
  abbrev pub gone_guest : Peer S → Option (Guest × Option Why)
  gone_guest peer =
      if listens peer.stage then None else option_map (λ (g : Guest). (g, peer.why)) peer.guest

  abbrev pub without_guest : Peer S → Peer S
  without_guest peer = if listens peer.stage then peer else record peer { guest = None }
