-- The receipts of all seats are removed, from the last place downwards.
use Rattle.hub_ledger.proofs.Vocabulary.{◌≡◌, ℕ, zero, suc, ◌<◌, ◌≤◌, ◌+◌, Bool, true, false, List, [], ◌∷◌, ◌++◌}
use Rattle.hub_ledger.proofs.Vocabulary.{length, Option, Some, None, refl, ap, sym, ◌∙◌, subst, arith, take, set}
use Rattle.hub_ledger.proofs.Vocabulary.{length-append, append_assoc, add-one, inl, inr, ◌↔◌, ◌⊎◌, ◌==◌, ◌&&◌}
use Rattle.hub_ledger.proofs.Vocabulary.{slice_get, append-nil, take_all, slice_get_within, all_append, equal, Entry}
use Rattle.hub_ledger.proofs.Vocabulary.{Receipt, Sitting, AreOf, IsFirstWrong, IsOf, IsTold, before, receipts_of}
use Rattle.hub_ledger.proofs.Vocabulary.{times}
use Rattle.session.proofs.Lists.{and_first, and_second, both_true}
use Rattle.hub_ledger.proofs.Places.{slice_get-set_other}
use Rattle.hub_ledger.proofs.Rising.{all_parts, are_of_before, before_append, before_are_of, before_before}
use Rattle.hub_ledger.proofs.Rising.{times_append, times_before}

-- the first wrong place, from a given one on
abbrev pub IsWrongFrom : List Entry → List Receipt → ℕ → Option ℕ → Type 0
IsWrongFrom entries rs from None = (k : ℕ) (e : Entry) → from ≤ k → slice_get entries k ≡ Some e → IsTold k e rs
IsWrongFrom entries rs from (Some wrong) =
    ((k : ℕ) (e : Entry) → from ≤ k → k < wrong → slice_get entries k ≡ Some e → IsTold k e rs)
    × (from ≤ wrong) × ((e : Entry) × (slice_get entries wrong ≡ Some e) × (IsTold wrong e rs → ⊥))

-- ---- seats up to a place

pub receipts_append : (xs ys : List Sitting) → receipts_of (xs ++ ys) ≡ receipts_of xs ++ receipts_of ys
receipts_append [] ys = refl
receipts_append (s ∷ xs) ys = ap (λ (x : List Receipt). s.receipts ++ x) (receipts_append xs ys)
    ∙ sym (append_assoc s.receipts (receipts_of xs) (receipts_of ys))

pub one_more : (xs : List Sitting) (i : ℕ) (s : Sitting) → slice_get xs i ≡ Some s
    → receipts_of (take (suc i) xs) ≡ receipts_of (take i xs) ++ s.receipts
one_more [] i s at = absurd (cc (at))
one_more (x ∷ xs) zero s at = (let e : x ≡ s = cc (at) in ap (λ (y : Sitting). y.receipts ++ []) e)
    ∙ append-nil s.receipts
one_more (x ∷ xs) (suc i) s at = ap (λ (y : List Receipt). x.receipts ++ y) (one_more xs i s at)
    ∙ sym (append_assoc x.receipts (receipts_of (take i xs)) s.receipts)

take_set : (xs : List Sitting) (i : ℕ) (y : Sitting) → take i (set xs i y) ≡ take i xs
take_set [] i y = refl
take_set (x ∷ xs) zero y = refl
take_set (x ∷ xs) (suc i) y = ap (λ (z : List Sitting). x ∷ z) (take_set xs i y)

set_here : (xs : List Sitting) (i : ℕ) (s y : Sitting) → slice_get xs i ≡ Some s → slice_get (set xs i y) i ≡ Some y
set_here [] i s y at = absurd (cc (at))
set_here (x ∷ xs) zero s y at = refl
set_here (x ∷ xs) (suc i) s y at = set_here xs i s y at

pub receipts_set : (xs : List Sitting) (i : ℕ) (s y : Sitting) → slice_get xs i ≡ Some s
    → length (receipts_of (set xs i y)) + length s.receipts ≡ length (receipts_of xs) + length y.receipts
receipts_set [] i s y at = absurd (cc (at))
receipts_set (x ∷ xs) zero s y at =
    let e : length x.receipts ≡ length s.receipts =
    (let same : x ≡ s = cc (at) in ap (λ (z : Sitting). length z.receipts) same) in
    omega (arith, e, length-append y.receipts (receipts_of xs), length-append x.receipts (receipts_of xs))
receipts_set (x ∷ xs) (suc i) s y at =
    omega (
      arith,
      receipts_set xs i s y at,
      length-append x.receipts (receipts_of (set xs i y)),
      length-append x.receipts
          (receipts_of xs),
    )

pub done_more : (orig cur : List Sitting) (i p : ℕ) (old new : Sitting) → slice_get cur i ≡ Some old
    → slice_get orig i ≡ Some old → new.receipts ≡ before p old.receipts
    → receipts_of (take i cur) ≡ before p (receipts_of (take i orig))
    → receipts_of (take (i + 1) (set cur i new)) ≡ before p (receipts_of (take (i + 1) orig))
done_more orig cur i p old new at was cut done =
    ap (λ n. receipts_of (take n (set cur i new))) (add-one i)
    ∙ one_more (set cur i new) i new (set_here cur i old new at)
    ∙ (λ j. receipts_of (take_set cur i new j) ++ cut j) ∙ ap (λ (x : List Receipt). x ++ before p old.receipts) done
    ∙ sym (before_append p (receipts_of (take i orig)) old.receipts) ∙ ap (before p) (sym (one_more orig i old was))
    ∙ ap (λ n. before p (receipts_of (take n orig))) (sym (add-one i))

pub times_more : (orig : List Sitting) (i p named t : ℕ) (old : Sitting) → slice_get orig i ≡ Some old
    → named ≡ times p (receipts_of (take i orig)) → t ≡ times p old.receipts
    → named + t ≡ times p (receipts_of (take (i + 1) orig))
times_more orig i p named t old was is here =
    (λ j. is j + here j) ∙ sym (times_append p (receipts_of (take i orig)) old.receipts)
    ∙ ap (times p) (sym (one_more orig i old was)) ∙ ap (λ n. times p (receipts_of (take n orig))) (sym (add-one i))

pub right_more : (orig : List Sitting) (i p : ℕ) (e : Entry) (right is : Bool) (old : Sitting)
    → slice_get orig i ≡ Some old → ((right ≡ true) ↔ AreOf p e (receipts_of (take i orig)))
    → ((is ≡ true) ↔ AreOf p e old.receipts)
    → ((right && is) ≡ true) ↔ AreOf p e (receipts_of (take (i + 1) orig))
right_more orig i p e right is old was those this =
    let more : receipts_of (take (i + 1) orig) ≡ receipts_of (take i orig) ++ old.receipts = ap
    (λ n. receipts_of (take n orig)) (add-one i) ∙ one_more orig i old was in (
      (λ both. subst (AreOf p e) (sym more)
          (all_append (λ (r : Receipt). r.place ≡ p → IsOf e r) (receipts_of (take i orig)) old.receipts
          (those.0 (and_first right is both)) (this.0 (and_second right is both)))),
      (λ all. let parts = all_parts (λ (r : Receipt). r.place ≡ p → IsOf e r) (receipts_of (take i orig)) old.receipts
          (subst (AreOf p e) more all) in both_true right is (those.1 parts.0) (this.1 parts.1)),
    )

pub left_more : (orig cur : List Sitting) (i : ℕ) (new : Sitting)
    → ((k : ℕ) → i ≤ k → slice_get cur k ≡ slice_get orig k) → (k : ℕ) → i + 1 ≤ k
    → slice_get (set cur i new) k ≡ slice_get orig k
left_more orig cur i new left k le = slice_get-set_other cur i new k (λ e. omega (arith, le, e))
    ∙ left k (omega (arith, le))

-- ---- a place of the trail

pub told_same : (cur orig : List Receipt) (p : ℕ) (e : Entry) → before (p + 1) cur ≡ before (p + 1) orig
    → IsTold p e cur → IsTold p e orig
told_same cur orig p e same told =
    let l : p < p + 1 = omega arith in
    record {
      once = sym (times_before orig p (p + 1) l) ∙ ap (times p) (sym same) ∙ times_before cur p (p + 1) l ∙ told.once;
      right = are_of_before orig p (p + 1) e l (subst (AreOf p e) same (before_are_of cur p (p + 1) e told.right));
    }

pub same_below : (cur orig new : List Receipt) (p : ℕ) → before (p + 1) cur ≡ before (p + 1) orig → new ≡ before p cur
    → before p new ≡ before p orig
same_below cur orig new p same cut =
    let le : p ≤ p + 1 = omega arith in
    ap (before p) cut ∙ before_before cur p p (omega arith) ∙ sym (before_before cur p (p + 1) le) ∙ ap (before p) same
    ∙ before_before orig p (p + 1) le

here_or_above : (p k : ℕ) → p ≤ k → (k ≡ p) ⊎ (p + 1 ≤ k)
here_or_above p k le = grind (arith, le)

pub right_here : (entries : List Entry) (rs : List Receipt) (p : ℕ) (e : Entry) (o : Option ℕ)
    → slice_get entries p ≡ Some e → IsTold p e rs → IsWrongFrom entries rs (p + 1) o → IsWrongFrom entries rs p o
right_here entries rs p e None at told rest = λ k f le is. elim (here_or_above p k le) [
  | inl same ↦
      (let g : Some e ≡ Some f = sym at ∙ ap (slice_get entries) (sym same)
      ∙ is in let h : e ≡ f = cc (g) in subst (λ (x : Entry). IsTold k x rs) h
      (subst (λ j. IsTold j e rs) (sym same) told))
  | inr above ↦ rest k f above is
]
right_here entries rs p e (Some w) at told rest = (
  (λ k f le less is. elim (here_or_above p k le) [
    | inl same ↦
        (let g : Some e ≡ Some f = sym at ∙ ap (slice_get entries) (sym same)
        ∙ is in let h : e ≡ f = cc (g) in subst (λ (x : Entry). IsTold k x rs) h
        (subst (λ j. IsTold j e rs) (sym same) told))
    | inr above ↦ rest.0 k f above less is
  ]),
  (let l = rest.1 in omega (arith, l)),
  rest.2,
)

pub wrong_here : (entries : List Entry) (rs : List Receipt) (p : ℕ) (e : Entry) → slice_get entries p ≡ Some e
    → (IsTold p e rs → ⊥) → IsWrongFrom entries rs p (Some p)
wrong_here entries rs p e at not = ((λ k f le less is. absurd (omega (arith, le, less))), omega arith, (e, at, not))

pub none_past : (entries : List Entry) (rs : List Receipt) → IsWrongFrom entries rs (length entries) None
none_past entries rs k e le at = absurd (let l = slice_get_within entries k e at in omega (arith, le, l))

pub first_is : (entries : List Entry) (rs : List Receipt) (o : Option ℕ) → IsWrongFrom entries rs 0 o
    → IsFirstWrong entries rs o
first_is entries rs None from = λ k e l at. from k e (omega arith) at
first_is entries rs (Some w) from = ((λ k e l at. from.0 k e (omega arith) l at), from.2)

-- ---- all seats

and_true : (a b : Bool) → a ≡ true → (a && b) ≡ b
and_true true b is = refl
and_true false b is = absurd (cc (is))

and_false : (a b : Bool) → a ≡ false → (a && b) ≡ false
and_false true b is = absurd (cc (is))
and_false false b is = refl

pub both_right : (a b c : Bool) → a ≡ true → c ≡ b → c ≡ (a && b)
both_right a b c is same = same ∙ sym (and_true a b is)

pub not_right : (a b c : Bool) → a ≡ false → c ≡ a → c ≡ (a && b)
not_right a b c is same = same ∙ is ∙ sym (and_false a b is)

-- what holds after the last seat
pub record AreStripped (orig cur : List Sitting) (p : ℕ) (e : Entry) (named : ℕ) (is : Bool) : Type 0 where
  pub rest : receipts_of cur ≡ before p (receipts_of orig)
  pub times : named ≡ times p (receipts_of orig)
  pub right : (is ≡ true) ↔ AreOf p e (receipts_of orig)

pub all_stripped : (orig cur : List Sitting) (i p : ℕ) (e : Entry) (named : ℕ) (right : Bool) → length orig ≤ i
    → length cur ≡ length orig → receipts_of (take i cur) ≡ before p (receipts_of (take i orig))
    → named ≡ times p (receipts_of (take i orig)) → ((right ≡ true) ↔ AreOf p e (receipts_of (take i orig)))
    → AreStripped orig cur p e named right
all_stripped orig cur i p e named right past same done is of =
    let all : take i orig ≡ orig = take_all i orig past in
    let now : take i cur ≡ cur = take_all i cur (omega (arith, past, same)) in
    record {
      rest = ap receipts_of (sym now) ∙ done ∙ ap (λ (x : List Sitting). before p (receipts_of x)) all;
      times = is ∙ ap (λ (x : List Sitting). times p (receipts_of x)) all;
      right = subst (λ (x : List Sitting). (right ≡ true) ↔ AreOf p e (receipts_of x)) all of;
    }

pub told_by_one : (rs : List Receipt) (p : ℕ) (e : Entry) (named : ℕ) (right : Bool) → named ≡ 1 → named ≡ times p rs
    → ((right ≡ true) ↔ AreOf p e rs) → (right ≡ true) ↔ IsTold p e rs
told_by_one rs p e named right one is of =
    ((λ r. record { once = sym is ∙ one; right = of.0 r }), (λ told. of.1 told.right))

pub not_told : (rs : List Receipt) (p : ℕ) (e : Entry) (named : ℕ) → (named ≡ 1 → ⊥) → named ≡ times p rs
    → ((named == 1) ≡ true) ↔ IsTold p e rs
not_told rs p e named not is = ((λ so. absurd (not (equal named 1 so))), (λ told. absurd (not (is ∙ told.once))))
