-- Where the effects go that a loop takes.
use Rattle.std.specs.Prelude.{◌≡◌, ◌⊎◌, ◌||◌, ℕ, Bool, true, false, List, [], ◌∷◌, Option, None}
use Rattle.std.specs.List.{list_any}
use Rattle.acl.specs.declared.user_id.UserId.{UserId}
use Rattle.attach_proto.specs.declared.kind.Kind.TheVariants as kind
use Rattle.attach_proto.specs.declared.message.Message.TheVariants as message
use Rattle.attach_proto.specs.declared.why.Why.TheVariants as why
use Rattle.session.specs.event.Effect.{Effect}
use Rattle.session.specs.event.Effect.TheVariants as effect
use Rattle.session.specs.event.Peer.TheVariants as peer
use Rattle.session.specs.event.Reason.{Reason}
use Rattle.server_connections.specs.Changing.{IsPutInto, LetsGo, hears}
use Rattle.server_connections.specs.Putting.{IsPutAt, PutsFor}
use Rattle.server_connections.specs.declared.connections.Connections.{Connections}
use Rattle.server_connections.specs.declared.peer.Role.{Role}
use Rattle.server_connections.specs.declared.peer.Role.TheVariants as role
use Rattle.server_seat.specs.declared.seat.SessionSeat.{Ghosts as Calls}
use Rattle.server_loop.specs.Leaving.{Expels, IfBool}
use Rattle.server_loop.specs.Submitting.{State, peer_at}
use Rattle.server_loop.specs.Walking.{VisitsAll}
use Rattle.server_loop.specs.Writing.{DropsAt}
use Rattle.server_sending.specs.Causes.{told_of}
use Rattle.server_sending.specs.Frames.{PutsFrames, PutsFront, PutsMessage}
use Rattle.server_sending.specs.Written.{Waiting}
use Rattle.server_steps.specs.Ending.{end_after}
use Rattle.server_steps.specs.Meaning.{role_at}
use Rattle.server_steps.specs.Telling.{misfit, with_any}
use Rattle.server_steps.specs.Typing.{is_open_at}

-- an effect, with the user who typed it
abbrev pub Sent : Type 0
Sent = Effect × Option UserId

-- the session ended a window
abbrev pub ends_window : Effect → Bool
ends_window (effect.Gone (peer.Window window) reason) = true
ends_window other = false

module _ {S J : Type 0} where
  -- its connection was told why it goes; after `quit` the server is to end
  abbrev pub Ends : Role → Reason → State S J → State S J → Type 0
  Ends role reason old new = LetsGo old.connections role (told_of reason) new.connections
      × (new ≡ record old { connections = new.connections; end = end_after reason old.end })

  -- it sent something else than a first message, if none came from it
  abbrev pub misfit_told : ℕ → State S J → State S J
  misfit_told key s = record s { news = with_any (misfit (role_at (peer_at key s))) s.news }

module _ {S J : Type 0} (calls : Calls J) where
  -- Something was put for a role, into the first connection that has it and into no other. If only the front of it
  -- could be put, that connection was told to go.
  abbrev pub HandsFor : Role → (Waiting → Waiting → Type 0) → (Waiting → Waiting → Type 0)
      → State S J → State S J → Type 0
  HandsFor role puts front old new =
      (PutsFor old.connections role puts new.connections × (new ≡ record old { connections = new.connections }))
      ⊎ ((key : ℕ) × (mid : Connections S) × IsPutAt old.connections role front mid key
      × Expels calls why.Fault key (record old { connections = mid }) new)

  -- Something was put for the connection of a key and for no other, if that is sent what the session says. If only the
  -- front of it could be put, the connection was told to go.
  abbrev pub SendsTo : ℕ → (Waiting → Waiting → Type 0) → (Waiting → Waiting → Type 0)
      → State S J → State S J → Type 0
  SendsTo key puts front old new =
      ((hears (peer_at key old) ≡ false) × (new ≡ old))
      ⊎ ((IsPutInto old.connections key puts new.connections × (new ≡ record old { connections = new.connections }))
      ⊎ ((mid : Connections S) × IsPutInto old.connections key front mid
      × Expels calls why.Fault key (record old { connections = mid }) new))

  -- an effect went to the connection of its client or window
  abbrev pub Hands : Effect → Option UserId → State S J → State S J → Type 0
  Hands (effect.Input window bytes) typist =
      HandsFor (role.Window window) (PutsFrames kind.Input typist bytes) (PutsFront kind.Input typist bytes)
  Hands (effect.Deliver client bytes) typist =
      HandsFor (role.Client client) (PutsFrames kind.Draw None bytes) (PutsFront kind.Draw None bytes)
  Hands (effect.Say client text) typist =
      HandsFor (role.Client client) (PutsMessage (message.Say text)) (λ old new. new ≡ old)
  Hands (effect.Size window rows columns) typist =
      HandsFor (role.Window window) (PutsMessage (message.Size rows columns)) (λ old new. new ≡ old)
  Hands (effect.Gone (peer.Window window) reason) typist = Ends (role.Window window) reason
  Hands (effect.Gone (peer.Client client) reason) typist = Ends (role.Client client) reason

  -- these effects did, in order and each once
  abbrev pub HandsAll : List Sent → State S J → State S J → Type 0
  HandsAll [] old new = new ≡ old
  HandsAll (sent ∷ rest) old new = (mid : State S J) × Hands sent.0 sent.1 old mid × HandsAll rest mid new

  -- Nobody may type into a window that was ended: what was typed there before, and wasn't begun, was taken out.
  abbrev pub DropsEnded : List Sent → State S J → State S J → Type 0
  DropsEnded effects old new =
      IfBool (list_any (λ sent. ends_window sent.0) effects) (VisitsAll (DropsAt calls) old new) (new ≡ old)

  -- The effects that waited were taken once, and went to their connections, in order and each once. If a step other
  -- than a draw was made, there is something to draw, and it is to be looked who may still type.
  pub record HandsOut (old new : State S J) : Type 0 where
    pub effects : List Sent
    pub is_told : Bool
    pub seat : J
    pub taken : calls.takes old.seat effects is_told seat
    pub kept : State S J
    pub dropped : DropsEnded effects (record old { seat = seat; is_behind = false }) kept
    pub mid : State S J
    pub handed : HandsAll effects kept mid
    pub told : new ≡ record mid {
      draws = record mid.draws { is_told = mid.draws.is_told || is_told };
      may_have_lost = mid.may_have_lost || is_told;
    }

  -- What it sent before was answered, and it was told to go, if it wasn't before. If it sent no first message, that is
  -- told to the log.
  pub record Faults (key : ℕ) (old new : State S J) : Type 0 where
    pub mid : State S J
    pub handed : HandsOut old mid
    pub goes : IfBool (is_open_at (peer_at key mid)) (Expels calls why.Fault key (misfit_told key mid) new)
        (new ≡ mid)
