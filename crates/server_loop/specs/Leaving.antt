-- How the session is told of a client or a window that left it.
use Rattle.std.specs.Prelude.{◌≡◌, ℕ, Bool, true, false, Option, Some, None, Ok, Err, MatchOption}
use Rattle.attach_proto.specs.declared.why.Why.{Why}
use Rattle.attach_proto.specs.declared.why.Why.TheVariants as why
use Rattle.session.specs.Trace.{EventValue}
use Rattle.server_connections.specs.Changing.{asked_to_go, expelled, known_gone}
use Rattle.server_connections.specs.Life.{given_up, parting}
use Rattle.server_connections.specs.declared.peer.Peer.{Peer}
use Rattle.server_seat.specs.declared.seat.SeatFault.TheVariants as fault
use Rattle.server_seat.specs.declared.seat.SessionSeat.{Ghosts as Calls}
use Rattle.server_loop.specs.Submitting.{Answer, State, Submits, peer_at, with_peer}

module _ {S : Type 0} where
  -- the event by which a connection leaves the session, if it left and the session wasn't told
  abbrev pub leaving : Option (Peer S) → Option EventValue
  leaving None = None
  leaving (Some peer) = parting peer.leaves

-- one of two facts
abbrev pub IfBool : Bool → Type 0 → Type 0 → Type 0
IfBool true a b = a
IfBool false a b = b

module _ {S J : Type 0} where
  -- once the session was told, that is noted; without memory it is still to be told, in the next turn
  abbrev pub Notes : Answer → ℕ → State S J → Bool → State S J → Type 0
  Notes (Err fault.NoMemory) key old told new = (told ≡ false) × (new ≡ record old { has_refused = true })
  Notes (Err (fault.Over end)) key old told new = (told ≡ true) × (new ≡ with_peer known_gone key old)
  Notes (Ok answer) key old told new = (told ≡ true) × (new ≡ with_peer known_gone key old)

module _ {S J : Type 0} (calls : Calls J) where
  -- the session was told by this event, in one step
  pub record LeavesBy (event : EventValue) (key : ℕ) (old : State S J) (told : Bool) (new : State S J)
      : Type 0 where
    pub answer : Answer
    pub mid : State S J
    pub step : Submits calls event old answer mid
    pub noted : Notes answer key mid told new

  -- If the connection of a key left, the session was told once, by its own event, and that is noted. Else nothing was
  -- done.
  abbrev pub TellsLeaving : ℕ → State S J → Bool → State S J → Type 0
  TellsLeaving key old told new = MatchOption (leaving (peer_at key old))
      ((told ≡ true) × (new ≡ old))
      (λ event. LeavesBy event key old told new)

  -- so it was, or there was no memory for it
  abbrev pub TriesLeaving : ℕ → State S J → State S J → Type 0
  TriesLeaving key old new = (told : Bool) × TellsLeaving key old told new

  -- the connection of a key was changed, and if it left, the session was told so
  abbrev pub Changes : (Peer S → Peer S) → ℕ → State S J → Bool → State S J → Type 0
  Changes change key old told new = TellsLeaving key (with_peer change key old) told new

  -- it was told to go
  abbrev pub Expels : Why → ℕ → State S J → State S J → Type 0
  Expels cause key old new = (told : Bool) × Changes (expelled cause) key old told new

  -- it was given up
  abbrev pub Loses : ℕ → State S J → State S J → Type 0
  Loses key old new = (told : Bool) × Changes given_up key old told new

  -- it goes on its own; if the session couldn't be told, it was told to go
  abbrev pub Detaches : ℕ → State S J → State S J → Type 0
  Detaches key old new = (told : Bool) × (mid : State S J) × Changes asked_to_go key old told mid
      × IfBool told (new ≡ mid) (Expels why.Fault key mid new)
