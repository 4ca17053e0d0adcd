-- A deed that was done, or a refusal, is the outcome of its event.
use Rattle.session_input.proofs.Vocabulary.{◌≡◌, ◌++◌, List, [], Option, Some, None, Err, refl, ap, sym, subst, ◌∙◌}
use Rattle.session_input.proofs.Vocabulary.{append-nil, append_assoc, followed_by, Act, Refusal, NoWindow, Verdict}
use Rattle.session_input.proofs.Vocabulary.{Reply, Tables, first_fault, Deed, Outcome, refused, left_acts, Step}
use Rattle.session_input.proofs.Vocabulary.{StepOutput, State, Stands, HasDone, IsAsBefore, did, HasLeft, HasHappened}
use Rattle.session_model.specs.declared.refusal.Check.{Check}
use Rattle.session_model.specs.Checks.{verdicts}
use Rattle.session_model.specs.Outcomes.{finished, where_passed}

-- it was refused, and nothing was done
pub was_refused : (t : Tables) (vs : List Verdict) (r : Refusal) (o : Outcome) (old new : State)
    (before after : Step) → o ≡ refused t vs r → Stands t old → IsAsBefore old new before.made after.made
    → after.verdicts.items ≡ before.verdicts.items ++ vs → HasHappened o (Err r) new before after
was_refused t vs r o old new before after is st same told =
    subst (λ (p : Outcome). HasHappened p (Err r) new before after) (sym is) (record {
      replied = refl;
      stands = subst (λ (s : State). Stands t s) (sym same.state) st;
      acts = same.acts ∙ sym (append-nil before.made.acts.items);
      effects = same.effects ∙ sym (append-nil before.made.effects.items);
      verdicts = told;
    })

-- a deed was done, and then users left windows
pub was_done : (t : Tables) (vs : List Verdict) (d : Deed) (o : Outcome) (reply said : Reply)
    (middle new : State) (before after : Step) (first second : StepOutput)
    → o ≡ finished t vs reply d → reply ≡ said → first.acts.items ≡ before.made.acts.items
    → first.effects.items ≡ before.made.effects.items → HasDone t d middle first second
    → HasLeft t d new second after.made → after.verdicts.items ≡ before.verdicts.items ++ vs
    → HasHappened o said new before after
was_done t vs d o reply said middle new before after first second is same acts effects done left told =
    subst (λ (p : Outcome). HasHappened p said new before after) (sym is) (record {
      replied = same;
      stands = left.stands;
      acts = left.acts
          ∙ ap (λ xs. xs ++ left_acts t.clients d.tables.clients)
          (done.acts ∙ ap (λ xs. xs ++ d.acts) acts)
          ∙ append_assoc before.made.acts.items d.acts (left_acts t.clients d.tables.clients);
      effects = left.effects ∙ done.effects ∙ ap (λ fs. fs ++ d.effects) effects;
      verdicts = told;
    })

-- nobody leaves a window after a deed that leaves each client's focus
pub nobody_leaves : (t : Tables) (d : Deed) (new : State) (made : StepOutput)
    → left_acts t.clients d.tables.clients ≡ [] → Stands (did t d) new → HasLeft t d new made made
nobody_leaves t d new made none st = record {
  stands = subst (λ (acts : List Act). Stands (record d.tables { acts = followed_by t.acts acts }) new)
      (sym (ap (λ xs. d.acts ++ xs) none ∙ append-nil d.acts)) st;
  acts = sym (append-nil made.acts.items) ∙ ap (λ xs. made.acts.items ++ xs) (sym none);
  effects = refl;
}

-- ---- a row that is there

-- the outcome of it
abbrev pub for_row : {X : Type 0} → Tables → (X → Outcome) → Option X → Outcome
for_row t f o = elim o [ None ↦ refused t [] NoWindow | Some x ↦ f x ]

pub for_there : {X : Type 0} (t : Tables) (f : X → Outcome) (o : Option X) (x : X) → o ≡ Some x
    → for_row t f o ≡ f x
for_there t f o x is = ap (for_row t f) is

-- ---- checks

passed_is : (t : Tables) (cs : List Check) (reply : Reply) (d : Deed) → first_fault t cs ≡ None
    → where_passed t cs reply d ≡ finished t (verdicts t cs) reply d
passed_is t cs reply d none =
    ap (λ (o : Option Refusal). elim o as (λ _. Outcome) [
      | Some r ↦ refused t (verdicts t cs) r
      | None ↦ finished t (verdicts t cs) reply d
    ]) none

-- the checks passed, and the deed was done
pub was_passed : (t : Tables) (cs : List Check) (d : Deed) (o : Outcome) (reply said : Reply)
    (middle new : State) (before after : Step) (first second : StepOutput)
    → o ≡ where_passed t cs reply d → first_fault t cs ≡ None → reply ≡ said
    → first.acts.items ≡ before.made.acts.items → first.effects.items ≡ before.made.effects.items
    → HasDone t d middle first second → HasLeft t d new second after.made
    → after.verdicts.items ≡ before.verdicts.items ++ verdicts t cs → HasHappened o said new before after
was_passed t cs d o reply said middle new before after first second is none same acts effects done left told =
    was_done t (verdicts t cs) d o reply said middle new before after first second
    (is ∙ passed_is t cs reply d none) same acts effects done left told
