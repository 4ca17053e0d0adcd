-- What an event tells of a connection.
use Rattle.std.specs.Prelude.{◌||◌, Bool, true, false, if◌then◌else◌}
use Rattle.server_connections.specs.Changing.{changed}
use Rattle.server_connections.specs.declared.connections.Connections.{Connections}
use Rattle.server_connections.specs.declared.peer.Peer.{Peer}
use Rattle.server_turns.specs.declared.around.Came.{Came}
use Rattle.server_turns.specs.declared.around.Came.TheVariants as came

module _ {S : Type 0} where
  abbrev pub readied : Bool → Bool → Peer S → Peer S
  readied is_ready has_hung_up peer = if is_ready then record peer {
    has_more = true;
    has_hung_up = peer.has_hung_up || has_hung_up;
  } else peer

  abbrev pub roomed : Bool → Peer S → Peer S
  roomed has_room peer = if has_room then record peer { is_full = false } else peer

  -- there is something to read, it takes bytes again, or its other end was closed, which is read and written to see
  abbrev pub marked : Bool → Bool → Bool → Peer S → Peer S
  marked is_readable is_writable has_hung_up peer =
      roomed (is_writable || has_hung_up) (readied (is_readable || has_hung_up) has_hung_up peer)

  -- connections after something came
  abbrev pub after : Came → Connections S → Connections S
  after (came.Peer key readable writable hung_up) s = changed (marked readable writable hung_up) key s
  after other s = s

-- whether connections may wait to be handed out, if they might before
abbrev pub asked_by : Came → Bool → Bool
asked_by came.Listener was = true
asked_by other was = was
