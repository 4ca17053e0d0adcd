-- An event on a client or window that is there was done as its deed; on one that isn't, it was refused.
use Rattle.session_core.proofs.Vocabulary.{◌≡◌, List, [], Option, Some, Ok, Err, refl, ap, sym, append-nil, inl, inr}
use Rattle.session_core.proofs.Vocabulary.{◌⊎◌, Refusal, NoMemory, Reply, Tables, Deed, Outcome, finished, refused}
use Rattle.session_core.proofs.Vocabulary.{done, Step, StepOutput, State, Stands, IsAsBefore, HasHappened, Stepped}
use Rattle.session_core.proofs.Vocabulary.{was_done}
use Rattle.std.proofs.Common.{None}
use Rattle.session_model.specs.declared.refusal.Refusal.TheVariants.{NoWindow}
use Rattle.session_model.specs.Deeds.{given}
use Rattle.session_state.specs.Doing.{HasDone}
use Rattle.session_events.specs.Leaving.{HasLeft}
use Rattle.session_input.proofs.Outcomes.{was_refused}

-- what is done of it
abbrev pub of_row : {X : Type 0} → Tables → (X → Deed) → Option X → Outcome
of_row t f o = elim o [ None ↦ refused t [] NoWindow | Some x ↦ finished t [] done (f x) ]

module _ {X : Type 0} (t : Tables) (f : X → Deed) where
  row_done : (o : Option X) (d : Deed) → given o NoWindow (λ x. Ok (f x)) ≡ Ok d
      → of_row t f o ≡ finished t [] done d
  unfolding given
  row_done None d is = absurd (cc (is))
  row_done (Some x) d is =
      let same : f x ≡ d = cc (is) in ap (λ (e : Deed). finished t [] done e) same

  row_refused : (o : Option X) (r : Refusal) → given o NoWindow (λ x. Ok (f x)) ≡ Err r
      → of_row t f o ≡ refused t [] r
  unfolding given
  row_refused None r is =
      let same : NoWindow ≡ r = cc (is) in ap (λ (e : Refusal). refused t [] e) same
  row_refused (Some x) r is = absurd (cc (is))

  pub was_settled : (o : Option X) (d : Deed) (said : Reply) (middle new : State)
      (before : Step) (second made : StepOutput) → given o NoWindow (λ x. Ok (f x)) ≡ Ok d
      → done ≡ said → HasDone t d middle before.made second → HasLeft t d new second made
      → HasHappened (of_row t f o) said new before (record before { made = made })
  was_settled o d said middle new before second made is same did left =
      was_done t [] d (of_row t f o) done said middle new before (record before { made = made }) before.made second
      (row_done o d is) same refl refl did left (sym (append-nil before.verdicts.items))

  pub was_unsettled : (o : Option X) (r : Refusal) (old new : State) (before : Step) (made : StepOutput)
      → (r ≡ NoMemory) ⊎ (given o NoWindow (λ x. Ok (f x)) ≡ Err r)
      → Stands t old → IsAsBefore old new before.made made
      → Stepped (of_row t f o) (Err r) new before (record before { made = made })
  was_unsettled o r old new before made (inl full) st same = inl full
  was_unsettled o r old new before made (inr is) st same =
      inr (was_refused t [] r (of_row t f o) old new before (record before { made = made }) (row_refused o r is)
      st same (sym (append-nil before.verdicts.items)))
