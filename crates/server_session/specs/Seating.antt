-- What a seat shows of the session that it is in.
use Rattle.std.specs.Prelude.{◌≡◌, ℕ, Bool, List, [], ◌∷◌, Option, Some, None, Result, Ok, Err, IfSome, IsSome}
use Rattle.acl.specs.declared.user_id.UserId.{UserId}
use Rattle.hub.specs.Filing.{kept_of}
use Rattle.hub.specs.Seats.{Sitting, Told}
use Rattle.hub.specs.Trails.{Entry}
use Rattle.hub.specs.answer.HubFault.{HubFault}
use Rattle.hub.specs.answer.HubFault.TheVariants as hub
use Rattle.session.specs.Trace.{EventValue}
use Rattle.session.specs.event.Effect.{Effect}
use Rattle.server_seat.specs.declared.seat.SeatAnswer.{SeatAnswer}
use Rattle.server_seat.specs.declared.seat.SeatFault.{SeatFault}
use Rattle.server_seat.specs.declared.seat.SeatFault.TheVariants as fault
use Rattle.server_seat.specs.declared.seat.ServerEnd.TheVariants as end
use Rattle.server_trail.specs.declared.waiting.Stopped.{Stopped}
use Rattle.server_session.specs.Counting.{once_more}
use Rattle.server_session.specs.Gauging.{IsGauged}
use Rattle.server_session.specs.Loading.{closed_by, opened_by, size_of}
use Rattle.server_session.specs.Outcomes.{outcome_of}
use Rattle.server_session.specs.declared.books.Calls.{Calls}

-- if an answer has an entry, and the trail a file, then the entry was put down at its place
abbrev pub IsFiled : {T : Type 0} → (T → ℕ → Option Entry → Type 0) → Option T → Told → Type 0
IsFiled puts recorder told = IfSome recorder (λ r. IfSome told.place (λ place. puts r place told.entry))

-- the trail's file has stopped or not, as what takes its lines says; without a file nothing stops
abbrev pub StopsAs : {T : Type 0} → (T → Option Stopped → Type 0) → Option T → Option Stopped → Type 0
StopsAs stops None stop = stop ≡ None
StopsAs stops (Some recorder) stop = stops recorder stop

-- why an event has no answer
abbrev pub fault_of : HubFault → SeatFault
fault_of hub.NoMemory = fault.NoMemory
fault_of (hub.TrailFull why) = fault.Over end.TrailFull
fault_of (hub.Strange why) = fault.Over end.Fault

-- a full trail, and a seat of another hub, refuse only events that write an entry
abbrev pub IsRefused : EventValue → HubFault → Type 0
IsRefused event hub.NoMemory = Unit {0}
IsRefused event (hub.TrailFull why) = IsSome (kept_of event)
IsRefused event (hub.Strange why) = IsSome (kept_of event)

-- the calls after one by which something was counted, if there was something
abbrev pub if_called : {A : Type 0} → Option A → Calls → Calls
if_called None calls = calls
if_called (Some it) calls = once_more calls

-- each window that is gone by these effects was counted off by one call
abbrev pub after_closings : List (Effect × Option UserId) → Calls → Calls
after_closings [] calls = calls
after_closings (sent ∷ rest) calls = after_closings rest (if_called (closed_by sent.0) calls)

-- what was typed was counted by one call, and so was the window that was opened
abbrev pub calls_to_count : Told → Calls → Calls
calls_to_count told calls = if_called (opened_by told.event told.reply) (if_called told.typed calls)

module _ {B : Type 0} (closes : B → ℕ → B → Type 0) where
  -- a window that is gone by an effect isn't counted any more
  abbrev pub IsClosed : Effect → Type 0
  IsClosed effect = IfSome (closed_by effect) (λ window. (was : B) × (then : B) × closes was window then)

  abbrev pub AreClosed : List (Effect × Option UserId) → Type 0
  AreClosed [] = Unit {0}
  AreClosed (sent ∷ rest) = IsClosed sent.0 × AreClosed rest

module _ {B : Type 0} (types_in : B → ℕ → ℕ → B → Type 0) (opens : B → ℕ → Bool → B → Type 0) where
  -- what a step typed into a window was counted, and so was a window that it opened
  pub record IsCounted (told : Told) : Type 0 where
    pub typed : IfSome told.typed (λ window. (was : B) × (then : B) × types_in was window (size_of told.event) then)
    pub opened : IfSome (opened_by told.event told.reply)
        (λ window. (done : Bool) × (was : B) × (then : B) × opens was window done then)

  module _ (adds : ℕ → ℕ → Type 0) (answers : Sitting → EventValue → Told → Sitting → Type 0)
      (refuses : Sitting → EventValue → HubFault → Type 0) (old : Sitting) (before : Calls) (event : EventValue) where
    -- the session answered this event by one step for the seat, and this is what the loop is told of it; the entry,
    -- what was typed and a window that was opened were counted, each once
    pub record IsAnswered (answer : SeatAnswer) (new : Sitting) (after : Calls) : Type 0 where
      pub told : Told
      pub is_told : answers old event told new
      pub reply : answer.reply ≡ told.reply
      pub filled : IsGauged adds told answer.filled
      pub typed : answer.typed ≡ told.typed
      pub outcome : answer.outcome ≡ outcome_of told.reply told.checks told.checks_execute
      pub counted : IsCounted told
      pub once : after ≡ calls_to_count told (if_called told.place before)

    -- one step was made and answered, or the session refused the event, and the seat is as it was
    abbrev pub Steps : Result SeatAnswer SeatFault → Sitting → Calls → Type 0
    Steps (Ok answer) new after = IsAnswered answer new after
    Steps (Err fault) new after = (new ≡ old) × (after ≡ before)
        × (why : HubFault) × refuses old event why × (fault ≡ fault_of why)
