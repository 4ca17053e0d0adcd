-- What is written to connections, and what of that which waits for them goes unwritten.
use Rattle.std.specs.Prelude.{◌≡◌, ◌⊎◌, ℕ, zero, suc, Bool, false, Option, Some, None, IsSomeAnd}
use Rattle.acl.specs.declared.user_id.UserId.{UserId}
use Rattle.attach_proto.specs.declared.why.Why.TheVariants as why
use Rattle.server_connections.specs.declared.connections.Connections.{Connections}
use Rattle.server_connections.specs.declared.peer.Role.{Role}
use Rattle.server_connections.specs.declared.peer.Role.TheVariants as role
use Rattle.server_connections.specs.declared.peer_stream.PeerStream.{Ghosts as Streams}
use Rattle.server_sending.specs.Typists.{HasNoTypist, IsNextTypist}
use Rattle.server_steps.specs.Meaning.{role_at}
use Rattle.server_steps.specs.Sending.{IsLaggard, WritesAt, cut, frames_at, without_user}
use Rattle.server_seat.specs.declared.seat.SessionSeat.{Ghosts as Calls}
use Rattle.server_loop.specs.Leaving.{Expels, IfBool, TellsLeaving}
use Rattle.server_loop.specs.Submitting.{State, peer_at, with_peer}
use Rattle.server_loop.specs.Walking.{VisitsAll}

module _ {S J : Type 0} (calls : Calls J) where
  -- The session was asked whether a user may type into a window. If they may not, what they typed, and of which nothing
  -- was written, was taken out.
  abbrev pub DropsOf : ℕ → ℕ → UserId → State S J → State S J → Type 0
  DropsOf key window user old new = (may : Bool) × calls.lets_type old.seat user window may
      × IfBool may (new ≡ old) (new ≡ with_peer (without_user user) key old)

  -- This was done for the users who typed what waits, each once in the order of their names, after the name of one and
  -- for at most so many.
  abbrev pub DropsAfter : ℕ → ℕ → ℕ → Option UserId → State S J → State S J → Type 0
  DropsAfter zero key window last old new = new ≡ old
  DropsAfter (suc count) key window last old new =
      (HasNoTypist last (frames_at (peer_at key old)) × (new ≡ old))
      ⊎ ((user : UserId) × (mid : State S J) × IsNextTypist last (frames_at (peer_at key old)) user
      × DropsOf key window user old mid × DropsAfter count key window (Some user) mid new)

  pub record DropsAll (key window : ℕ) (old new : State S J) : Type 0 where
    pub dropped : DropsAfter 4294967295 key window None old new

  -- for a window
  abbrev pub DropsTyped : Role → ℕ → State S J → State S J → Type 0
  DropsTyped (role.Window window) key old new = DropsAll key window old new
  DropsTyped role key old new = new ≡ old

  abbrev pub DropsAt : ℕ → State S J → State S J → Type 0
  DropsAt key old new = DropsTyped (role_at (peer_at key old)) key old new

  -- what was typed by those who may have lost their right was looked at
  abbrev pub DropsLost : State S J → State S J → Type 0
  DropsLost old new = IfBool old.may_have_lost
      (VisitsAll DropsAt (record old { may_have_lost = false }) new)
      (new ≡ old)

module _ {S J : Type 0} (calls : Calls J) (streams : Streams S) where
  -- what waits for a connection was written as far as it takes it; if it was closed, the session was told that it left
  pub record Writes (key : ℕ) (old new : State S J) : Type 0 where
    pub closed : Bool
    pub mid : Connections S
    pub written : WritesAt streams key old.connections closed mid
    pub told : IfBool closed ((told : Bool) × TellsLeaving calls key (record old { connections = mid }) told new)
        (new ≡ record old { connections = mid })

  -- One for which too much waits was told so, written to and is closed once it takes no more. What was typed by those
  -- who may not type there was taken out first.
  pub record DropsLaggard (key : ℕ) (old new : State S J) : Type 0 where
    pub outcome : ((¬ (IsSomeAnd (peer_at key old) IsLaggard)) × (new ≡ old))
        ⊎ (IsSomeAnd (peer_at key old) IsLaggard × ((kept : State S J) × DropsAt calls key old kept
        × (told : State S J) × Expels calls why.TooFarBehind key kept told × Writes key (with_peer cut key told) new))
