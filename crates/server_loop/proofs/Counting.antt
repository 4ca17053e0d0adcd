-- When the entries of users end, after a step was counted or had to wait.
use Rattle.server_loop.proofs.Vocabulary.{◌≡◌, ◌∙◌, ◌/◌, ℕ, Bool, true, Option, Some, ap, sym, subst, as_nanos, UserId}
use Rattle.server_loop.proofs.Vocabulary.{EventValue, State, Submits, Stay, cost_of}
use Rattle.std.specs.Prelude.{option_map, unwrap_or}
use Rattle.std.specs.declared.time.Duration.{Duration}
use Rattle.server_seat.specs.declared.seat.SessionSeat.{Ghosts as Calls}
use Rattle.server_steps.specs.Settling.{came_of}
use Rattle.server_users.specs.Rationed.{MayCause, end_of, later_end}
use Rattle.server_users.specs.declared.allowance.Outcome.{Outcome}
use Rattle.server_users.specs.declared.ration.Rations.{Rations}
use Rattle.server_loop.specs.Submitting.{Answer, after_step}
use Rattle.server_loop.specs.Trying.{EndsAt, IsTried, end_at}

-- the entries of the others end as before
abbrev pub Others : UserId → Rations → Rations → Type 0
Others user old new =
    (u : UserId) → (u ≡ user → ⊥) → end_of new.list.items u ≡ end_of old.list.items u

module _ (user : UserId) (old new : Rations) where
  pub stayed : end_of new.list.items user ≡ end_of old.list.items user → Others user old new
      → new.period ≡ old.period → Stay user old new
  stayed own others period = record {
    own = ap (λ (o : Option ℕ). unwrap_or o 0) own;
    others = λ u no. ap (λ (o : Option ℕ). unwrap_or o 0) (others u no);
    period = period;
  }

  -- of one who hadn't caused any
  pub begun : end_of new.list.items user ≡ Some (end_at old user) → Others user old new
      → new.period ≡ old.period → Stay user old new
  begun own others period = record {
    own = ap (λ (o : Option ℕ). unwrap_or o 0) own;
    others = λ u no. ap (λ (o : Option ℕ). unwrap_or o 0) (others u no);
    period = period;
  }

  pub counted : (now entries : ℕ) (mid : Rations)
      → end_of mid.list.items user ≡ Some (end_at old user) → Others user old mid → mid.period ≡ old.period
      → end_of new.list.items user
      ≡ option_map (later_end now (as_nanos mid.period) entries) (end_of mid.list.items user)
      → Others user mid new → new.period ≡ mid.period
      → EndsAt user (later_end now (as_nanos old.period) entries (end_at old user)) old new
  counted now entries mid begins stay same own others period = record {
    own = ap (λ (o : Option ℕ). unwrap_or o 0)
        (own ∙ ap (λ (o : Option ℕ). option_map (later_end now (as_nanos mid.period) entries) o) begins)
        ∙ ap (λ (p : Duration). later_end now (as_nanos p) entries (end_at old user)) same;
    others = λ u no. ap (λ (o : Option ℕ). unwrap_or o 0) (others u no ∙ stay u no);
    period = period ∙ same;
  }

module _ {S J : Type 0} (calls : Calls J) (event : EventValue) (old new : State S J) where
  -- a step was made and noted
  pub submitted : (answer : Answer) (seat : J) → calls.submits old.seat event answer seat
      → new ≡ after_step event answer seat old → Submits calls event old answer new
  submitted answer seat step is =
      let same : new.seat ≡ seat = ap (λ (s : State S J). s.seat) is in (
        subst (λ (s : J). calls.submits old.seat event answer s) (sym same) step,
        subst (λ (s : J). new ≡ after_step event answer s old) (sym same) is,
      )

module _ {S J : Type 0} (calls : Calls J) (event : EventValue) (old new : State S J) (user : UserId) where
  -- what is counted of so many entries
  abbrev pub Counts : ℕ → Rations → Type 0
  Counts entries rations = EndsAt user
      (later_end (as_nanos old.now) (as_nanos old.rations.period) entries (end_at old.rations user))
      old.rations rations

  -- a step whose cost, user and answer are known by other names
  pub tried : (shown : UserId) → user ≡ shown → (cost : ℕ) → cost ≡ cost_of event
      → (paid : Bool) → paid ≡ true → (seat : J) → calls.pays old.seat user old.now cost paid seat
      → MayCause (as_nanos old.now) (as_nanos old.rations.period) (end_at old.rations user)
      → (rations : Rations) → Counts (cost / 1000) rations
      → (made : Answer) (done : State S J)
      → Submits calls event (record old { rations = rations; seat = seat }) made done
      → (outcome : Outcome) → outcome ≡ came_of made → calls.settles done.seat user cost outcome new.seat
      → new ≡ record done { seat = new.seat }
      → (answer : Answer) → made ≡ answer → IsTried calls shown event old answer new
  tried shown named cost costs paid is_paid seat pays may rations counts made done step outcome comes settles same
      answer is =
      subst (λ (u : UserId). IsTried calls u event old answer new) named
      (subst (λ (a : Answer). IsTried calls user event old a new) is (record {
        may = may;
        seat = seat;
        paid = subst (λ (n : ℕ). calls.pays old.seat user old.now n true seat) costs
            (subst (λ (b : Bool). calls.pays old.seat user old.now cost b seat) is_paid pays);
        rations = rations;
        counted = subst (λ (n : ℕ). Counts (n / 1000) rations) costs counts;
        done = done;
        step = step;
        settled = subst (λ (n : ℕ). calls.settles done.seat user n (came_of made) new.seat) costs
            (subst (λ (o : Outcome). calls.settles done.seat user cost o new.seat) comes settles);
        same = same;
      }))
