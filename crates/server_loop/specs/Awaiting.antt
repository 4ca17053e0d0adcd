-- A new loop, and what a loop has to do though no event tells of it.
use Rattle.std.specs.Prelude.{◌≡◌, ◌*◌, ℕ, Bool, true, false, [], Option, None, is_some}
use Rattle.std.specs.Option.{option_or}
use Rattle.std.specs.Duration.{as_nanos}
use Rattle.acl.specs.declared.user_id.UserId.{UserId}
use Rattle.server_connections.specs.Marked.{IsMarked}
use Rattle.server_connections.specs.Peers.{AwaitsAt}
use Rattle.server_connections.specs.declared.peer.Awaits.{Awaits}
use Rattle.server_connections.specs.declared.peer.Awaits.TheVariants as awaited
use Rattle.server_seat.specs.declared.seat.ServerEnd.{ServerEnd}
use Rattle.server_seat.specs.declared.seat.SessionSeat.{Ghosts as Calls}
use Rattle.server_steps.specs.Ending.{full_if}
use Rattle.server_steps.specs.Submitted.{nothing_submitted}
use Rattle.server_steps.specs.declared.turns.Pending.{Pending}
use Rattle.server_steps.specs.declared.turns.Pending.TheVariants as pending
use Rattle.server_users.specs.Rationed.{end_of}
use Rattle.server_loop.specs.Leaving.{IfBool}
use Rattle.server_loop.specs.Submitting.{State}

module _ {S J : Type 0} (calls : Calls J) where
  -- why the server is to end: the cause that was noted, or that the trail's file has stopped
  abbrev pub EndsBy : State S J → Option ServerEnd → Type 0
  EndsBy s end = (has_stopped : Bool) × calls.stops s.seat has_stopped × (end ≡ option_or s.end (full_if has_stopped))

module _ {S J : Type 0} where
  -- one of so many loops: it has and had no connection, knows no other users' file, and counted, submitted, refused
  -- and told nothing
  abbrev pub IsFresh : ℕ → J → State S J → Type 0
  IsFresh loops seat s = (s.connections.peers.slots ≡ []) × ((key : ℕ) → ¬ (IsMarked s.connections.awake key))
      × (s.connections.number ≡ 0) × ((user : UserId) → end_of s.rations.list.items user ≡ None)
      × (as_nanos s.rations.period ≡ loops * 1000000)
      × (s ≡ record s {
        seat = seat;
        users = None;
        looked = None;
        room = 32768;
        submitted = nothing_submitted;
        is_behind = false;
        has_refused = false;
        draws = record { is_told = false; from = None; made = 0 };
        may_have_lost = false;
        end = None;
        news = [];
      })

  -- a connection that is awake waits for this
  abbrev pub OneAwaits : Awaits → State S J → Type 0
  OneAwaits what s = (key : ℕ) × IsMarked s.connections.awake key × AwaitsAt s.connections.peers what key

  -- none of them does
  abbrev pub NoneAwaits : Awaits → State S J → Type 0
  NoneAwaits what s =
      (key : ℕ) → IsMarked s.connections.awake key → ¬ (AwaitsAt s.connections.peers what key)

  -- whether one does
  abbrev pub AnyAwaits : Awaits → State S J → Bool → Type 0
  AnyAwaits what s found = IfBool found (OneAwaits what s) (NoneAwaits what s)

  -- something is to be done at once: effects wait to be handed out, or clients to be drawn, or a connection waits
  abbrev pub IsDue : State S J → Bool → Type 0
  IsDue s is_due = IfBool s.is_behind (is_due ≡ true)
      (IfBool (is_some s.draws.from) (is_due ≡ true) (AnyAwaits awaited.Work s is_due))

  -- something is to be tried again soon: there was no memory for it, or a message has to wait
  abbrev pub HasWaiting : State S J → Bool → Type 0
  HasWaiting s waits = IfBool s.has_refused (waits ≡ true) (AnyAwaits awaited.Ration s waits)

  -- the first of these that there is
  abbrev pub Pends : State S J → Pending → Type 0
  Pends s pending.Work = IsDue s true
  Pends s pending.Retry = IsDue s false × HasWaiting s true
  Pends s pending.Patience = IsDue s false × HasWaiting s false × AnyAwaits awaited.End s true
  Pends s pending.Nothing = IsDue s false × HasWaiting s false × AnyAwaits awaited.End s false
