-- A connection that is awaited for too long.
use Rattle.std.specs.Prelude.{◌-◌, ◌&&◌, ℕ, Bool, false, Option, Some, None, is_none, nat_le, if◌then◌else◌}
use Rattle.std.specs.Duration.{as_nanos}
use Rattle.std.specs.declared.time.Duration.{Duration}
use Rattle.attach_proto.specs.declared.why.Why.TheVariants as why
use Rattle.server_connections.specs.Life.{dismissed, given_up}
use Rattle.server_connections.specs.Peers.{is_awaited}
use Rattle.server_connections.specs.declared.peer.Peer.{Peer}
use Rattle.server_connections.specs.declared.peer.Stage.{Stage}
use Rattle.server_connections.specs.declared.peer.Stage.TheVariants as stage

-- this time is ten seconds ago or more; times are in nanoseconds
abbrev pub is_long_ago : ℕ → Option Duration → Bool
is_long_ago now None = false
is_long_ago now (Some since) = nat_le 10000000000 (now - as_nanos since)

module _ {S : Type 0} where
  abbrev pub is_overdue : ℕ → Peer S → Bool
  is_overdue now peer = is_awaited peer && is_long_ago now peer.awaited

  -- it is awaited since now, unless it was awaited before
  abbrev pub awaited_from : Duration → Peer S → Peer S
  awaited_from now peer =
      if is_awaited peer && is_none peer.awaited then record peer { awaited = Some now } else peer

  -- one that was told to go is given up, any other one is told to go
  abbrev pub sent_off_at : Stage → Peer S → Peer S
  sent_off_at stage.Ending peer = given_up peer
  sent_off_at other peer = dismissed why.Fault peer

  abbrev pub sent_off : Peer S → Peer S
  sent_off peer = sent_off_at peer.stage peer
