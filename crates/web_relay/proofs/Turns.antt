-- Halls, place by place.
use Rattle.web_relay.proofs.Vocabulary.{◌≡◌, ◌≢◌, ℕ, suc, ◌+◌, ◌≤◌, ◌<◌, List, [], refl, sym, subst, ◌∙◌, inl, inr}
use Rattle.web_relay.proofs.Vocabulary.{Bool, true, false, Option, Some, None, ap, length, arith, Result, Ok, Err}
use Rattle.web_relay.proofs.Vocabulary.{OnErr, count_by, IfSome, cases_lt, Slab, get, Hall, Renews, HallNumber, AtBoth}
use Rattle.std.proofs.Common.{◌∷◌, ◌==◌, if◌then◌else◌, get_or, get_or-set_same}
use Rattle.std.specs.Prelude.{IfOk, OnSome, is_some}
use Rattle.std.proofs.lemmas.List.{get_or_past}
use Rattle.slab.specs.Slab.{Updates, with_value}
use Rattle.web_relay.specs.Halls.{IsNewer, Opening, hall_of, with_serial}

-- ---- each place in its turn

module _ {S : Type 0} (P : ℕ → Option (Hall S) → Option (Hall S) → Type 0) (before now : Slab (Hall S)) (place : ℕ)
    (done : (q : ℕ) → q < place → P q (get before q) (get now q))
    (rest : (q : ℕ) → place ≤ q → get now q ≡ get before q) where
  pub done-more : (after : Slab (Hall S)) → P place (get now place) (get after place)
      → ((other : ℕ) → other ≢ place → get after other ≡ get now other)
      → (q : ℕ) → q < place + 1 → P q (get before q) (get after q)
  done-more after here others q below =
      elim (cases_lt q place) [
        | inl low ↦
            subst (λ (v : Option (Hall S)). P q (get before q) v) (sym (others q (λ (e : q ≡ place). omega arith)))
            (done q low)
        | inr high ↦
            let e : q ≡ place = omega arith in
            subst (λ (n : ℕ). P n (get before n) (get after n)) (sym e)
            (subst (λ (v : Option (Hall S)). P place v (get after place)) (rest place (omega arith)) here)
      ]

  pub rest-more : (after : Slab (Hall S)) → ((other : ℕ) → other ≢ place → get after other ≡ get now other)
      → (q : ℕ) → place + 1 ≤ q → get after q ≡ get before q
  rest-more after others q high = others q (λ (e : q ≡ place). omega arith) ∙ rest q (omega arith)

  pub all-done : ((q : ℕ) → P q None None) → length before.slots ≤ place → (q : ℕ) → P q (get before q) (get now q)
  all-done none all q =
      elim (cases_lt q place) [
        | inl low ↦ done q low
        | inr high ↦
            let past : get before q ≡ None = get_or_past before.slots q None (omega arith) in
            subst (λ (v : Option (Hall S)). P q v (get now q)) (sym past)
            (subst (λ (v : Option (Hall S)). P q None v) (sym (rest q high ∙ past)) (none q))
      ]

module _ {S : Type 0} (reaches : List ℕ → ℕ → Option S → Type 0) (by : Opening) (early late first last place : ℕ)
    (le : early ≤ late) (fits : first ≤ last) where
  newer-wide : (old new : Option (Hall S)) → IsNewer reaches by late first place old new
      → IsNewer reaches by early last place old new
  newer-wide None new n = n
  newer-wide (Some old) None n = n
  newer-wide (Some old) (Some new) n = (n.0, omega (arith, le, n.1), omega (arith, fits, n.2), n.3)

  -- a hall whose serial is between two that are nearer
  pub renews-wide : (old new : Option (Hall S)) → Renews reaches by late first place old new
      → Renews reaches by early last place old new
  renews-wide old new (inl stays) = inl stays
  renews-wide old new (inr newer) = inr (newer-wide old new newer)

-- ---- a hall's number

only-one : {S : Type 0} (there hall : Hall S) (b : Bool) → if◌then◌else◌ {A = Option (Hall S)} b
    (Some there) None ≡ Some hall
    → there ≡ hall
only-one there hall true e = cc
only-one there hall false e = cc

module _ {S : Type 0} where
  pub hall-is : (halls : Slab (Hall S)) (number : HallNumber) (there hall : Hall S)
      → get halls number.place ≡ Some there
      → hall_of halls number ≡ Some hall → there ≡ hall
  hall-is halls number there hall is found =
      only-one there hall (there.serial == number.serial)
      (subst (λ (v : Option (Hall S)). with_serial number.serial v ≡ Some hall) is found)

-- no hall is there
pub no-halls : {S : Type 0} (halls : List (Option (Hall S))) → ((q : ℕ) → get_or halls q None ≡ None)
    → count_by is_some halls ≡ 0
no-halls [] all = refl
no-halls (None ∷ halls) all = no-halls halls (λ q. all (suc q))
no-halls (Some hall ∷ halls) all = absurd (let e : Some hall ≡ None = all 0 in cc)

-- ---- a hall that comes for another one

pub where-it-was : {S : Type 0} {P : Type 0} (there taken : Option (Hall S)) → (there ≡ None → ⊥) → taken ≡ there
    → OnSome taken P → P
where-it-was None taken some is p = absurd (some refl)
where-it-was (Some hall) None some is p = absurd (let e : None ≡ Some hall = is in cc)
where-it-was (Some hall) (Some other) some is p = p

module _ {S : Type 0} where
  pub insert-others : {E : Type 0} (r : Result ℕ E) (before after : Slab (Hall S)) (place : ℕ) (hall : Hall S)
      → before.vacant_key ≡ place → IfOk r (λ key. key ≡ before.vacant_key)
      → IfOk r (λ key. Updates before after key (Some hall))
      → OnErr r (after ≡ record before { capacity = after.capacity })
      → (other : ℕ) → other ≢ place → get after other ≡ get before other
  insert-others (Ok key) before after place hall next is updates err other apart =
      updates.others other (λ (e : other ≡ key). apart (e ∙ is ∙ next))
  insert-others (Err e) before after place hall next is updates err other apart =
      ap (λ (s : Slab (Hall S)). get s other) err

pub some_more : (P Q : ℕ → Type 0) (r : Option ℕ) → ((n : ℕ) → P n → Q n) → IfSome r P → IfSome r Q
some_more P Q None more h = tt
some_more P Q (Some n) more h = more n h

-- ---- the hall at one place

module _ {S : Type 0} (P : Hall S → Hall S → Type 0) (s : Slab (Hall S)) (place : ℕ) (a b : Hall S)
    (there : get s place ≡ Some a) where
  pub changed_there : P a b → AtBoth P (get s place) (get (with_value s place b) place)
  changed_there p =
      elim (cases_lt place (length s.slots)) [
        | inl within ↦
            subst (λ (v : Option (Hall S)). AtBoth P v (get (with_value s place b) place)) (sym there)
            (subst (λ (v : Option (Hall S)). AtBoth P (Some a) v)
            (sym (get_or-set_same s.slots place (Some b) None within)) p)
        | inr past ↦ absurd (let wrong : None ≡ Some a = sym (get_or_past s.slots place None past) ∙ there in cc)
      ]
