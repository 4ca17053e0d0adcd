-- An event that a user tries. Times are in nanoseconds.
use Rattle.std.specs.Prelude.{◌≡◌, ◌⊎◌, ◌+◌, ◌*◌, ◌/◌, ℕ, true, false, Some, None, Ok, Err, IfSome, min, unwrap_or}
use Rattle.std.specs.Duration.{as_nanos}
use Rattle.std.specs.declared.time.Duration.{Duration}
use Rattle.acl.specs.declared.user_id.UserId.{UserId}
use Rattle.session.specs.Trace.{EventValue}
use Rattle.server_seat.specs.declared.seat.SessionSeat.{Ghosts as Calls}
use Rattle.server_steps.specs.Settling.{Tried, came_of}
use Rattle.server_steps.specs.Submitted.{entries_of, kept_of}
use Rattle.server_users.specs.Rationed.{MayCause, end_of, later_end}
use Rattle.server_users.specs.declared.ration.Rations.{Rations}
use Rattle.server_loop.specs.Submitting.{Answer, State, Submits}

-- when the entries of a user end; 0 if they caused none
abbrev pub end_at : Rations → UserId → ℕ
end_at rations user = unwrap_or (end_of rations.list.items user) 0

-- a user may cause no more entries now, or there is no memory to count them
abbrev pub IsSpent : Rations → Duration → UserId → Type 0
IsSpent rations now user =
    IfSome (end_of rations.list.items user) (λ end. ¬ (MayCause (as_nanos now) (as_nanos rations.period) end))

-- the entries of a user end then, and those of the others as before
pub record EndsAt (user : UserId) (end : ℕ) (old new : Rations) : Type 0 where
  pub own : end_at new user ≡ end
  pub others : (u : UserId) → (u ≡ user → ⊥) → end_at new u ≡ end_at old u
  pub period : new.period ≡ old.period

-- nothing was counted
abbrev pub Stay : UserId → Rations → Rations → Type 0
Stay user old new = EndsAt user (end_at old user) old new

-- what a step costs, in thousandths: a unit for each entry to which it leads, and for each 128 bytes that the trail
-- keeps of it
abbrev pub cost_of : EventValue → ℕ
cost_of event = 1000 * (entries_of event + min (kept_of event) 65535 / 128)

module _ {S J : Type 0} (calls : Calls J) where
  -- A user has to wait: too much was counted, there is no memory to count, or the user didn't pay. Nothing was
  -- submitted.
  pub record HasToWait (user : UserId) (event : EventValue) (old new : State S J) : Type 0 where
    pub cause : (IsSpent old.rations old.now user × (new.seat ≡ old.seat))
        ⊎ calls.pays old.seat user old.now (cost_of event) false new.seat
    pub counted : Stay user old.rations new.rations
    pub same : new ≡ record old { rations = new.rations; seat = new.seat }

  -- The user may cause more entries and paid, once. The cost was counted, one step was made with this event, and the
  -- cost was settled by what came of the step, once.
  pub record IsTried (user : UserId) (event : EventValue) (old : State S J) (answer : Answer) (new : State S J)
      : Type 0 where
    pub may : MayCause (as_nanos old.now) (as_nanos old.rations.period) (end_at old.rations user)
    pub seat : J
    pub paid : calls.pays old.seat user old.now (cost_of event) true seat
    pub rations : Rations
    pub counted : EndsAt user (later_end (as_nanos old.now) (as_nanos old.rations.period) (cost_of event / 1000)
        (end_at old.rations user)) old.rations rations
    pub done : State S J
    pub step : Submits calls event (record old { rations = rations; seat = seat }) answer done
    pub settled : calls.settles done.seat user (cost_of event) (came_of answer) new.seat
    pub same : new ≡ record done { seat = new.seat }

  abbrev pub Tries : UserId → EventValue → State S J → Tried → State S J → Type 0
  Tries user event old (Ok None) new = HasToWait user event old new
  Tries user event old (Ok (Some answer)) new = IsTried user event old (Ok answer) new
  Tries user event old (Err refusal) new = IsTried user event old (Err refusal) new
