-- Checks made one after another, up to the first that fails, are the definitions' checks.
use Rattle.std.proofs.Common.{◌≡◌, ℕ, zero, suc, ◌+◌, ◌<◌, length, get_or, take, drop, add-one, arith, Bool, true}
use Rattle.std.proofs.Common.{false, List, [], ◌∷◌, ◌++◌, Option, Some, None, Result, Ok, Err, refl, ap, sym, subst}
use Rattle.std.proofs.Common.{inl, inr, ◌∙◌, append_assoc}
use Rattle.std.specs.Prelude.{if◌then◌else◌, option_to_list, ◌⊎◌, IsErrAnd}
use Rattle.session_model.specs.declared.refusal.Refusal.{Refusal}
use Rattle.session_model.specs.declared.refusal.Refusal.TheVariants.{NoMemory}
use Rattle.session_model.specs.declared.refusal.Verdict.{Verdict}
use Rattle.session_model.specs.Tables.{Tables}
use Rattle.session_model.specs.declared.refusal.Check.{Check}
use Rattle.session_model.specs.Checks.{passes, verdict, refusal_of, first_fault, verdicts}
use Rattle.session_checks.specs.Checked.{Passed, Failed, Checked, AllMade, listed}

module _ (t : Tables) where
  -- if some pass, those after them decide
  pub fault_on : (cs ds : List Check) → first_fault t cs ≡ None → first_fault t (cs ++ ds) ≡ first_fault t ds
  fault_on [] ds is = refl
  fault_on (c ∷ cs) ds is = on (passes t c) is (fault_on cs ds) where
    on : (b : Bool) → (if b then first_fault t cs else Some (refusal_of t c)) ≡ None
        → (first_fault t cs ≡ None → first_fault t (cs ++ ds) ≡ first_fault t ds)
        → (if b then first_fault t (cs ++ ds) else Some (refusal_of t c)) ≡ first_fault t ds
    on true is rest = rest is
    on false is rest = absurd (cc (is))

  pub verdicts_on : (cs ds : List Check) → first_fault t cs ≡ None
      → verdicts t (cs ++ ds) ≡ verdicts t cs ++ verdicts t ds
  verdicts_on [] ds is = refl
  verdicts_on (c ∷ cs) ds is = on (passes t c) is (verdicts_on cs ds) where
    on : (b : Bool) → (if b then first_fault t cs else Some (refusal_of t c)) ≡ None
        → (first_fault t cs ≡ None → verdicts t (cs ++ ds) ≡ verdicts t cs ++ verdicts t ds)
        → verdict t c ++ (if b then verdicts t (cs ++ ds) else []) ≡ (verdict t c ++ (if b then verdicts t cs else []))
        ++ verdicts t ds
    on true is rest = ap (λ vs. verdict t c ++ vs) (rest is)
        ∙ sym (append_assoc (verdict t c) (verdicts t cs) (verdicts t ds))
    on false is rest = absurd (cc (is))

  -- if one fails, none after it is made
  pub fault_stop : (cs ds : List Check) (r : Refusal) → first_fault t cs ≡ Some r → first_fault t (cs ++ ds) ≡ Some r
  fault_stop [] ds r is = absurd (cc (is))
  fault_stop (c ∷ cs) ds r is = on (passes t c) is (fault_stop cs ds r) where
    on : (b : Bool) → (if b then first_fault t cs else Some (refusal_of t c)) ≡ Some r
        → (first_fault t cs ≡ Some r → first_fault t (cs ++ ds) ≡ Some r)
        → (if b then first_fault t (cs ++ ds) else Some (refusal_of t c)) ≡ Some r
    on true is rest = rest is
    on false is rest = is

  pub verdicts_stop : (cs ds : List Check) (r : Refusal) → first_fault t cs ≡ Some r
      → verdicts t (cs ++ ds) ≡ verdicts t cs
  verdicts_stop [] ds r is = absurd (cc (is))
  verdicts_stop (c ∷ cs) ds r is = on (passes t c) is (verdicts_stop cs ds r) where
    on : (b : Bool) → (if b then first_fault t cs else Some (refusal_of t c)) ≡ Some r
        → (first_fault t cs ≡ Some r → verdicts t (cs ++ ds) ≡ verdicts t cs)
        → verdict t c ++ (if b then verdicts t (cs ++ ds) else []) ≡ verdict t c ++ (if b then verdicts t cs else [])
    on true is rest = ap (λ vs. verdict t c ++ vs) (rest is)
    on false is rest = refl

  -- some passed, and then others
  pub passed_on : (cs ds : List Check) (before middle after : List Verdict) → Passed t cs before middle
      → Passed t ds middle after → Passed t (cs ++ ds) before after
  passed_on cs ds before middle after p q = record {
    none = fault_on cs ds p.none ∙ q.none;
    noted = q.noted ∙ ap (λ vs. vs ++ verdicts t ds) p.noted ∙ append_assoc before (verdicts t cs) (verdicts t ds)
        ∙ ap (λ vs. before ++ vs) (sym (verdicts_on cs ds p.none));
  }

  -- some passed, and then one failed
  pub failed_on : (cs ds more : List Check) (r : Refusal) (before middle after : List Verdict)
      → Passed t cs before middle → Failed t ds r middle after → Failed t (cs ++ (ds ++ more)) r before after
  failed_on cs ds more r before middle after p q = record {
    first = fault_on cs (ds ++ more) p.none ∙ fault_stop ds more r q.first;
    noted = q.noted ∙ ap (λ vs. vs ++ verdicts t ds) p.noted ∙ append_assoc before (verdicts t cs) (verdicts t ds)
        ∙ ap (λ vs. before ++ (verdicts t cs ++ vs)) (sym (verdicts_stop ds more r q.first))
        ∙ ap (λ vs. before ++ vs) (sym (verdicts_on cs (ds ++ more) p.none));
  }

  -- memory was refused
  pub refused_on : (cs ds more : List Check) (r : Refusal) (before middle after : List Verdict)
      → Passed t cs before middle → (r ≡ NoMemory) ⊎ Failed t ds r middle after
      → (r ≡ NoMemory) ⊎ Failed t (cs ++ (ds ++ more)) r before after
  refused_on cs ds more r before middle after p (inl full) = inl full
  refused_on cs ds more r before middle after p (inr q) =
      inr (failed_on cs ds more r before middle after p q)

  -- an error that is passed on
  pub passed_back : {X : Type 0} (cs : List Check) (result : Result X Refusal) (r : Refusal)
      (before after : List Verdict) → IsErrAnd result (λ e. e ≡ r)
      → (r ≡ NoMemory) ⊎ Failed t cs r before after → Checked t cs result before after
  passed_back cs (Ok x) r before after same is = absurd same
  passed_back cs (Err e) r before after same is =
      subst (λ e. (e ≡ NoMemory) ⊎ Failed t cs e before after) (sym same) is

  all_made : (cs ds : List Check) → AllMade t (cs ++ ds) → AllMade t cs × AllMade t ds
  all_made [] ds made = (tt, made)
  all_made (c ∷ cs) ds made = let rest = all_made cs ds made.1 in ((made.0, rest.0), rest.1)

  -- the checks up to a place, the one there if there is one, and those after it
  pub around_one : (cs : List (Option Check)) (i : ℕ) (d : Option Check) → i < length cs
      → listed cs ≡ listed (take i cs) ++ (option_to_list (get_or cs i d) ++ listed (drop (suc i) cs))
  around_one [] i d lt = absurd (omega arith)
  around_one (None ∷ cs) zero d lt = refl
  around_one (Some c ∷ cs) zero d lt = refl
  around_one (None ∷ cs) (suc i) d lt = around_one cs i d (omega arith)
  around_one (Some c ∷ cs) (suc i) d lt = ap (λ xs. c ∷ xs) (around_one cs i d (omega arith))

  pub made_at : (cs : List (Option Check)) (i : ℕ) (d : Option Check) → i < length cs → AllMade t (listed cs)
      → AllMade t (option_to_list (get_or cs i d))
  made_at cs i d lt made =
      let here = option_to_list (get_or cs i d) in
      (all_made here (listed (drop (suc i) cs))
      (all_made (listed (take i cs)) (here ++ listed (drop (suc i) cs))
      (subst (AllMade t) (around_one cs i d lt) made)).1).0

  pub take_one : (cs : List (Option Check)) (i : ℕ) (d : Option Check) → i < length cs
      → listed (take (i + 1) cs) ≡ listed (take i cs) ++ option_to_list (get_or cs i d)
  take_one [] i d lt = absurd (omega arith)
  take_one (None ∷ cs) zero d lt = refl
  take_one (Some c ∷ cs) zero d lt = refl
  take_one (None ∷ cs) (suc i) d lt = ap (λ k. listed (take k (None ∷ cs))) (add-one (suc i))
      ∙ ap (λ k. listed (take k cs)) (sym (add-one i)) ∙ take_one cs i d (omega arith)
  take_one (Some c ∷ cs) (suc i) d lt = ap (λ k. listed (take k (Some c ∷ cs))) (add-one (suc i))
      ∙ ap (λ xs. c ∷ xs) (ap (λ k. listed (take k cs)) (sym (add-one i)) ∙ take_one cs i d (omega arith))
