-- How connections end, and the server.
use Rattle.std.specs.Prelude.{◌≡◌, ◌⊎◌, ◌+◌, ◌<◌, ◌≤◌, ℕ, zero, suc, Bool, false, Option, Some, None, IfSome}
use Rattle.std.specs.Prelude.{Err, Result, if◌then◌else◌, is_some, nat_le}
use Rattle.std.specs.Duration.{as_nanos}
use Rattle.std.specs.declared.time.Duration.{Duration}
use Rattle.attach_proto.specs.declared.why.Why.{Why}
use Rattle.session.specs.event.Reason.{Reason}
use Rattle.session.specs.event.Reason.TheVariants as reason
use Rattle.slab.specs.Slab.{Slab, get}
use Rattle.server_connections.specs.Changing.{changed}
use Rattle.server_connections.specs.Fullness.{full_window, fullness_news, own_window}
use Rattle.server_connections.specs.Lending.{awoken, touched}
use Rattle.server_connections.specs.Life.{dismissed, given_up, gone_guest}
use Rattle.server_connections.specs.Overdue.{awaited_from, is_overdue, sent_off}
use Rattle.server_connections.specs.Peers.{awaits, is_new, is_open}
use Rattle.server_connections.specs.declared.connections.Connections.{Connections}
use Rattle.server_connections.specs.declared.peer.Awaits.TheVariants as awaited
use Rattle.server_connections.specs.declared.peer.Peer.{Peer}
use Rattle.server_connections.specs.declared.peer.Role.{Role}
use Rattle.server_connections.specs.declared.peer.Role.TheVariants as role
use Rattle.server_connections.specs.declared.peer_stream.PeerStream.{Ghosts as Streams}
use Rattle.server_seat.specs.declared.news.Guest.{Guest}
use Rattle.server_seat.specs.declared.seat.SeatAnswer.{SeatAnswer}
use Rattle.server_seat.specs.declared.seat.SeatFault.{SeatFault}
use Rattle.server_seat.specs.declared.seat.SeatFault.TheVariants as fault
use Rattle.server_seat.specs.declared.seat.ServerEnd.{ServerEnd}
use Rattle.server_seat.specs.declared.seat.ServerEnd.TheVariants as cause
use Rattle.server_steps.specs.Sending.{IsWrittenOut}

-- why the server is to end, once the session ended a client or a window for this reason
abbrev pub end_after : Reason → Option ServerEnd → Option ServerEnd
end_after reason.Quit end = Some cause.Quit
end_after other end = end

-- after an answer to a step
abbrev pub end_by : Result SeatAnswer SeatFault → Option ServerEnd → Option ServerEnd
end_by (Err (fault.Over end)) was = Some end
end_by other was = was

-- if nothing is written to the trail's file any more, as at a full trail
abbrev pub full_if : Bool → Option ServerEnd
full_if has_stopped = if has_stopped then Some cause.TrailFull else None

module _ {T : Type 0} (visits : ℕ → T → T → Type 0) where
  -- so many keys from one on had their visit, in order and each once
  abbrev pub EachKey : ℕ → ℕ → T → T → Type 0
  EachKey zero key old new = new ≡ old
  EachKey (suc count) key old new = (mid : T) × visits key old mid × EachKey count (key + 1) mid new

-- the one with the lower number
abbrev pub older : Option ℕ → Option (ℕ × ℕ) → ℕ → Option (ℕ × ℕ)
older None oldest key = oldest
older (Some number) None key = Some (number, key)
older (Some number) (Some oldest) key = if nat_le oldest.0 number then Some oldest else Some (number, key)

module _ {S : Type 0} where
  -- what the loops are to be told of a window
  abbrev pub fullness_at : Option (Peer S) → Option (ℕ × Bool)
  fullness_at None = None
  fullness_at (Some peer) = fullness_news peer.full (full_window peer) (own_window peer)

  abbrev pub told_full : Peer S → Peer S
  told_full peer = record peer { full = full_window peer }

  -- the guest that went, and why it was told to go
  abbrev pub gone_at : Option (Peer S) → Option (Guest × Option Why)
  gone_at None = None
  gone_at (Some peer) = gone_guest peer

  -- it was waited for, at this time
  abbrev pub expired : Duration → Peer S → Peer S
  expired now peer = if is_overdue (as_nanos now) peer then sent_off peer else awaited_from now peer

  -- its first message waits for a look that nobody asked for yet
  abbrev pub looks_at : Option (Peer S) → Bool
  looks_at None = false
  looks_at (Some peer) = awaits awaited.Look peer

  abbrev pub seeing : ℕ → Peer S → Peer S
  seeing look peer = record peer { look = Some look }

  -- from now on it waits for the look of this number
  abbrev pub seen_at : ℕ → ℕ → Connections S → Connections S
  seen_at look key s = if looks_at (get s.peers key) then changed (seeing look) key s else s

  -- the number of a connection whose first message isn't done
  abbrev pub new_number : Option (Peer S) → Option ℕ
  new_number None = None
  new_number (Some peer) = if is_new peer then Some peer.number else None

  -- how many there are of these, below a key
  abbrev pub new_below : Slab (Peer S) → ℕ → ℕ
  new_below peers zero = 0
  new_below peers (suc key) = new_below peers key + (if is_some (new_number (get peers key)) then 1 else 0)

  -- of these the connection of this number and key came first
  pub record IsFirstNew (peers : Slab (Peer S)) (end number key : ℕ) : Type 0 where
    pub within : key < end
    pub is_new : new_number (get peers key) ≡ Some number
    pub first : (k : ℕ) → k < end → IfSome (new_number (get peers k)) (λ other. number ≤ other)

  abbrev pub IsOldest : Slab (Peer S) → ℕ → ℕ → Type 0
  IsOldest peers end key = (number : ℕ) × IsFirstNew peers end number key

  -- it is told why the server ends; one that is nothing to the session is closed
  abbrev pub parted_by : Why → Role → Peer S → Peer S
  parted_by why role.Stranger peer = if is_open peer.stage then given_up peer else peer
  parted_by why other peer = dismissed why peer

  abbrev pub parted : Why → Peer S → Peer S
  parted why peer = parted_by why peer.role peer

  -- the session isn't told that it left: it ended
  abbrev pub finished : Why → Peer S → Peer S
  finished why peer = record (parted why peer) {
    role = role.Stranger;
    leaves = role.Stranger;
    is_full = false;
  }

  -- the connection of a key was told so, and was written to; no other one changed
  abbrev pub FinishesAt : Streams S → Why → ℕ → Connections S → Connections S → Type 0
  FinishesAt streams why key old new =
      ((get old.peers key ≡ None) × (new ≡ awoken old key))
      ⊎ ((peer : Peer S) × (left : Peer S) × (get old.peers key ≡ Some peer)
      × IsWrittenOut streams (finished why peer) left × (new ≡ touched old key left))
