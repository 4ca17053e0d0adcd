-- Facts of receipts whose places rise.
use Rattle.hub_ledger.proofs.Vocabulary.{◌≡◌, ℕ, zero, suc, ◌<◌, ◌≤◌, ◌+◌, ◌-◌, Bool, true, false, List, [], ◌∷◌, ◌++◌}
use Rattle.hub_ledger.proofs.Vocabulary.{length, Some, refl, ap, sym, ◌∙◌, subst, arith, cond, length-append, ◌↔◌, ◌==◌}
use Rattle.hub_ledger.proofs.Vocabulary.{nat_lt, slice_get, if◌then◌else◌, AllByRecursion, nat_tests, append-nil}
use Rattle.hub_ledger.proofs.Vocabulary.{filter-append, slice_get_within, all_append, all_weaken, equal, Entry, Receipt}
use Rattle.hub_ledger.proofs.Vocabulary.{AllBelow, AreOf, IsOf, Rise, before, times}
use Rattle.std.proofs.lemmas.List.Sums.{count_by-le-length, length-filter, sum_by-append, sum_by-cons}
use Rattle.hub_ledger.proofs.Queues.{all_at}

-- ---- all

pub all_parts : {A : Type 0} (P : A → Type 0) (xs ys : List A) → AllByRecursion P (xs ++ ys) → AllByRecursion P xs
    × AllByRecursion P ys
all_parts P [] ys all = (tt, all)
all_parts P (x ∷ xs) ys all = let rest = all_parts P xs ys all.1 in ((all.0, rest.0), rest.1)

pub below_more : (rs : List Receipt) (p q : ℕ) → p ≤ q → AllBelow rs p → AllBelow rs q
below_more rs p q le all = all_weaken (λ (r : Receipt). r.place < p) (λ (r : Receipt). r.place < q) rs
    (λ r h. omega (arith, le, h)) all

-- ---- rising

pub rise_push : (rs : List Receipt) (r : Receipt) → Rise rs → AllBelow rs r.place → Rise (rs ++ r ∷ [])
rise_push [] r rise all = (tt, tt)
rise_push (x ∷ rs) r rise all =
    (all_append (λ (s : Receipt). x.place < s.place) rs (r ∷ []) rise.0 (all.0, tt), rise_push rs r rise.1 all.1)

pub rise_front : (rs : List Receipt) (r : Receipt) → Rise (rs ++ r ∷ []) → Rise rs × AllBelow rs r.place
rise_front [] r rise = (tt, tt)
rise_front (x ∷ rs) r rise =
    let parts = all_parts (λ (s : Receipt). x.place < s.place) rs (r ∷ []) rise.0 in
    let rest = rise_front rs r rise.1 in
    ((parts.0, rest.0), (parts.1.0, rest.1))

-- the place of the last receipt is the highest
pub below_last : (rs : List Receipt) (r : Receipt) (p k : ℕ) → k + 1 ≡ length rs → Rise rs → slice_get rs k ≡ Some r
    → r.place < p → AllBelow rs p
below_last [] r p k len rise at l = tt
below_last (x ∷ []) r p zero len rise at l =
    (let e : x ≡ r = cc (at) in subst (λ (y : Receipt). y.place < p) (sym e) l, tt)
below_last (x ∷ y ∷ rs) r p zero len rise at l = absurd (omega (arith, len))
below_last (x ∷ rs) r p (suc k) len rise at l =
    let lower : x.place < r.place = all_at (λ (s : Receipt). x.place < s.place) rs k r rise.0 at in
    (omega (arith, lower, l), below_last rs r p k (omega (arith, len)) rise.1 at l)

pub last_below : (rs : List Receipt) (r : Receipt) (p : ℕ) → slice_get rs (length rs - 1) ≡ Some r → AllBelow rs p
    → r.place < p
last_below rs r p at all = all_at (λ (s : Receipt). s.place < p) rs (length rs - 1) r all at

-- ---- those below a place

keeps : (p : ℕ) (r : Receipt) (rs : List Receipt) → r.place < p → before p (r ∷ rs) ≡ r ∷ before p rs
keeps p r rs l = on (nat_lt r.place p) (grind (arith, nat_tests, l)) where
  on : (b : Bool) → b ≡ true → (if b then r ∷ before p rs else before p rs) ≡ r ∷ before p rs
  on true is = refl
  on false is = absurd (cc (is))

drops : (p : ℕ) (r : Receipt) (rs : List Receipt) → p ≤ r.place → before p (r ∷ rs) ≡ before p rs
drops p r rs l = on (nat_lt r.place p) (grind (arith, nat_tests, l)) where
  on : (b : Bool) → b ≡ false → (if b then r ∷ before p rs else before p rs) ≡ before p rs
  on true is = absurd (cc (is))
  on false is = refl

pub before_all : (rs : List Receipt) (p : ℕ) → AllBelow rs p → before p rs ≡ rs
before_all [] p all = refl
before_all (r ∷ rs) p all = keeps p r rs all.0 ∙ ap (λ (x : List Receipt). r ∷ x) (before_all rs p all.1)

pub before_append : (p : ℕ) (xs ys : List Receipt) → before p (xs ++ ys) ≡ before p xs ++ before p ys
before_append p xs ys = filter-append (λ (r : Receipt). nat_lt r.place p) xs ys

pub before_push : (p : ℕ) (rs : List Receipt) (r : Receipt) → p ≤ r.place → before p (rs ++ r ∷ []) ≡ before p rs
before_push p rs r le = before_append p rs (r ∷ []) ∙ ap (λ (x : List Receipt). before p rs ++ x) (drops p r [] le)
    ∙ append-nil (before p rs)

split : {P : Type 0} (p q : ℕ) → (p < q → P) → (q ≤ p → P) → P
split {P = P} p q low high = on (nat_lt p q) refl where
  on : (b : Bool) → nat_lt p q ≡ b → P
  on true is = low (grind (arith, nat_tests, is))
  on false is = high (grind (arith, nat_tests, is))

pub before_le : (p : ℕ) (rs : List Receipt) → length (before p rs) ≤ length rs
before_le p rs = omega (
  arith,
  length-filter (λ (r : Receipt). nat_lt r.place p) rs,
  count_by-le-length (λ (r : Receipt). nat_lt r.place p)
      rs,
)

-- receipts below a place are unchanged if those above it are removed
pub before_before : (rs : List Receipt) (p q : ℕ) → p ≤ q → before p (before q rs) ≡ before p rs
before_before [] p q le = refl
before_before (r ∷ rs) p q le =
    split {P = before p (before q (r ∷ rs)) ≡ before p (r ∷ rs)} r.place q
    (λ low. ap (before p) (keeps q r rs low)
    ∙ split {P = before p (r ∷ before q rs) ≡ before p (r ∷ rs)} r.place p
    (λ l. keeps p r (before q rs) l ∙ ap (λ (x : List Receipt). r ∷ x) (before_before rs p q le) ∙ sym (keeps p r rs l))
    (λ h. drops p r (before q rs) h ∙ before_before rs p q le ∙ sym (drops p r rs h)))
    (λ high. ap (before p) (drops q r rs high) ∙ before_before rs p q le ∙ sym (drops p r rs (omega (arith, le, high))))

-- ---- how many receipts name a place

pub times_append : (p : ℕ) (xs ys : List Receipt) → times p (xs ++ ys) ≡ times p xs + times p ys
times_append p xs ys = sum_by-append (λ (r : Receipt). cond (r.place == p) 1 0) xs ys

abbrev pub one : Bool → ℕ
one b = cond b 1 0

pub times_cons : (p : ℕ) (r : Receipt) (rs : List Receipt) → times p (r ∷ rs) ≡ one (r.place == p) + times p rs
times_cons p r rs = sum_by-cons (λ (s : Receipt). one (s.place == p)) r rs

one_named : (p : ℕ) (r : Receipt) → r.place ≡ p → one (r.place == p) ≡ 1
one_named p r is = ap one (equals r.place p is) where
  equals : (a b : ℕ) → a ≡ b → (a == b) ≡ true
  equals a b e = grind (arith, nat_tests, e)

not_named : (p : ℕ) (r : Receipt) → (r.place ≡ p → ⊥) → one (r.place == p) ≡ 0
not_named p r not = on (r.place == p) refl where
  on : (b : Bool) → (r.place == p) ≡ b → one b ≡ 0
  on true is = absurd (not (equal r.place p is))
  on false is = refl

pub times_none : (p : ℕ) (rs : List Receipt) → AllByRecursion (λ (r : Receipt). r.place ≡ p → ⊥) rs → times p rs ≡ 0
times_none p [] all = refl
times_none p (r ∷ rs) all = let h = not_named p r all.0 in let t = times_none p rs all.1 in let c = times_cons p r rs in
    omega (arith, h, t, c)

pub others_below : (rs : List Receipt) (p k : ℕ) → p ≤ k → AllBelow rs p
    → AllByRecursion (λ (r : Receipt). r.place ≡ k → ⊥) rs
others_below rs p k le all = all_weaken (λ (r : Receipt). r.place < p) (λ (r : Receipt). r.place ≡ k → ⊥) rs
    (λ r l e. omega (arith, le, l, e)) all

pub times_one : (p : ℕ) (r : Receipt) → r.place ≡ p → times p (r ∷ []) ≡ 1
times_one p r is = let h = one_named p r is in let c = times_cons p r [] in omega (arith, h, c)

pub times_before : (rs : List Receipt) (k q : ℕ) → k < q → times k (before q rs) ≡ times k rs
times_before [] k q l = refl
times_before (r ∷ rs) k q l =
    split {P = times k (before q (r ∷ rs)) ≡ times k (r ∷ rs)} r.place q
    (λ low. ap (times k) (keeps q r rs low) ∙ times_cons k r (before q rs)
    ∙ ap (λ n. one (r.place == k) + n) (times_before rs k q l) ∙ sym (times_cons k r rs))
    (λ high. ap (times k) (drops q r rs high) ∙ times_before rs k q l
    ∙ (let h = not_named k r (λ e. omega (arith, l, high, e)) in let c = times_cons k r rs in omega (arith, h, c)))

pub are_of_before : (rs : List Receipt) (k q : ℕ) (e : Entry) → k < q → AreOf k e (before q rs) → AreOf k e rs
are_of_before [] k q e l all = tt
are_of_before (r ∷ rs) k q e l all =
    split {P = AreOf k e (r ∷ rs)} r.place q
    (λ low. let here : AreOf k e (r ∷ before q rs) = subst (AreOf k e) (keeps q r rs low) all in
    (here.0, are_of_before rs k q e l here.1))
    (λ high. (
      λ is. absurd (omega (arith, l, high, is)),
      are_of_before rs k q e l
          (subst (AreOf k e) (drops q r rs high) all),
    ))

pub before_are_of : (rs : List Receipt) (k q : ℕ) (e : Entry) → AreOf k e rs → AreOf k e (before q rs)
before_are_of [] k q e all = tt
before_are_of (r ∷ rs) k q e all =
    split {P = AreOf k e (before q (r ∷ rs))} r.place q
    (λ low. subst (AreOf k e) (sym (keeps q r rs low)) (all.0, before_are_of rs k q e all.1))
    (λ high. subst (AreOf k e) (sym (drops q r rs high)) (before_are_of rs k q e all.1))

pub others_are_of : (rs : List Receipt) (k : ℕ) (e : Entry) → AllByRecursion (λ (r : Receipt). r.place ≡ k → ⊥) rs
    → AreOf k e rs
others_are_of rs k e all = all_weaken (λ (r : Receipt). r.place ≡ k → ⊥) (λ (r : Receipt). r.place ≡ k → IsOf e r) rs
    (λ r not is. absurd (not is)) all

-- ---- a place at the end

-- no receipt has the place
pub strip_none : (old mid : List Receipt) (p : ℕ) (e : Entry) → mid ≡ before (p + 1) old → AllBelow mid p
    → (mid ≡ before p old) × (0 ≡ times p old) × AreOf p e old
strip_none old mid p e cut all =
    let le : p ≤ p + 1 = omega arith in
    let l : p < p + 1 = omega arith in
    let others = others_below mid p p (omega arith) all in (
      sym (before_all mid p all) ∙ ap (before p) cut ∙ before_before old p (p + 1) le,
      sym (times_none p mid others) ∙ ap (times p) cut ∙ times_before old p (p + 1) l,
      are_of_before old p (p + 1) e l (subst (AreOf p e) cut (others_are_of mid p e others)),
    )

-- one receipt has the place
pub strip_one : (old mid rs : List Receipt) (r : Receipt) (p : ℕ) (e : Entry) → mid ≡ before (p + 1) old
    → mid ≡ rs ++ r ∷ [] → Rise mid → AllBelow mid (p + 1) → (AllBelow mid p → ⊥)
    → Rise rs × (rs ≡ before p old) × (1 ≡ times p old) × (IsOf e r → AreOf p e old) × (AreOf p e old → IsOf e r)
strip_one old mid rs r p e cut is rise all not =
    let front = rise_front rs r (subst Rise is rise) in
    let l : p < p + 1 = omega arith in
    let le : p ≤ p + 1 = omega arith in
    let low : r.place < p + 1 =
    (all_parts (λ (s : Receipt). s.place < p + 1) rs (r ∷ [])
    (subst (λ (x : List Receipt). AllBelow x (p + 1)) is all)).1.0 in
    let high : p ≤ r.place = split {P = p ≤ r.place} r.place p
    (λ lower. absurd
    (not
    (subst (λ (x : List Receipt). AllBelow x p) (sym is)
    (all_append (λ (s : Receipt). s.place < p) rs (r ∷ []) (below_more rs r.place p (omega (arith, lower)) front.1)
    (lower, tt)))))
    (λ h. h) in
    let at : r.place ≡ p = omega (arith, low, high) in
    let below : AllBelow rs p = below_more rs r.place p (omega (arith, at)) front.1 in
    let others = others_below rs p p (omega arith) below in (
      front.0,
      sym (before_all rs p below) ∙ sym (before_push p rs r high) ∙ ap (before p) (sym is ∙ cut)
          ∙ before_before old p (p + 1) le,
      sym (times_append p rs (r ∷ [])
          ∙ (let a = times_none p rs others in let b = times_one p r at in omega (arith, a, b)))
          ∙ ap (times p) (sym is ∙ cut) ∙ times_before old p (p + 1) l,
      (λ of. are_of_before old p (p + 1) e l
          (subst (AreOf p e) (sym is ∙ cut)
          (all_append (λ (s : Receipt). s.place ≡ p → IsOf e s) rs (r ∷ []) (others_are_of rs p e others)
          ((λ same. of), tt)))),
      (λ of.
          (all_parts (λ (s : Receipt). s.place ≡ p → IsOf e s) rs (r ∷ [])
          (subst (AreOf p e) (sym cut ∙ is) (before_are_of old p (p + 1) e of))).1.0 at),
    )

-- ---- a list whose end is removed

less : (a b : ℕ) → nat_lt a b ≡ true → a < b
less a b is = grind (arith, nat_tests, is)

tests_less : (a b : ℕ) → a < b → nat_lt a b ≡ true
tests_less a b l = grind (arith, nat_tests, l)

pub last_tells : (rs : List Receipt) (r : Receipt) (p : ℕ) → Rise rs → slice_get rs (length rs - 1) ≡ Some r
    → (nat_lt r.place p ≡ true) ↔ AllBelow rs p
last_tells rs r p rise at =
    let within : length rs - 1 < length rs = slice_get_within rs (length rs - 1) r at in (
      (λ is. below_last rs r p (length rs - 1) (omega (arith, within)) rise at (less r.place p is)),
      (λ all. tests_less r.place p (last_below rs r p at all)),
    )

pub not_below : (b : Bool) (rs : List Receipt) (p : ℕ) → ((b ≡ true) ↔ AllBelow rs p) → b ≡ false → AllBelow rs p → ⊥
not_below b rs p tells is all = cc (tells.1 all, is)

pub some_there : (rs : List Receipt) (p : ℕ) → (AllBelow rs p → ⊥) → 0 < length rs
some_there [] p not = absurd (not tt)
some_there (r ∷ rs) p not = omega arith

pub smaller : (old new : List Receipt) (r : Receipt) → old ≡ new ++ r ∷ [] → length new < length old
smaller old new r is = (let n = ap (λ (x : List Receipt). length x) is in omega (arith, n, length-append new (r ∷ [])))

end_at : (xs : List Receipt) (r : Receipt) → slice_get (xs ++ r ∷ []) (length xs) ≡ Some r
end_at [] r = refl
end_at (x ∷ xs) r = end_at xs r

pub last_one : (old new : List Receipt) (r : Receipt) → old ≡ new ++ r ∷ [] → slice_get old (length old - 1) ≡ Some r
last_one old new r is =
    let n : length old - 1 ≡ length new =
    (let e = ap (λ (x : List Receipt). length x) is in omega (arith, e, length-append new (r ∷ []))) in
    ap (slice_get old) n ∙ ap (λ (x : List Receipt). slice_get x (length new)) is ∙ end_at new r

pub cut_end : (old new orig : List Receipt) (r : Receipt) (p : ℕ) → old ≡ new ++ r ∷ [] → Rise old
    → (AllBelow old p → ⊥) → before p old ≡ before p orig → Rise new × (before p new ≡ before p orig)
cut_end old new orig r p is rise not same =
    let front = rise_front new r (subst Rise is rise) in
    let high : p ≤ r.place = split {P = p ≤ r.place} r.place p
    (λ lower. absurd
    (not
    (subst (λ (x : List Receipt). AllBelow x p) (sym is)
    (all_append (λ (s : Receipt). s.place < p) new (r ∷ [])
    (below_more new r.place p (omega (arith, lower)) front.1) (lower, tt)))))
    (λ h. h) in
    (front.0, sym (before_push p new r high) ∙ ap (before p) (sym is) ∙ same)

pub rise_pushed : (rs mid new : List Receipt) (r : Receipt) → mid ≡ rs → new ≡ mid ++ r ∷ [] → Rise rs
    → AllBelow rs r.place → Rise new × (length new ≡ length rs + 1)
rise_pushed rs mid new r same is rise below =
    let e : new ≡ rs ++ r ∷ [] = is ∙ ap (λ (x : List Receipt). x ++ r ∷ []) same in
    (subst Rise (sym e) (rise_push rs r rise below), ap (λ (x : List Receipt). length x) e ∙ length-append rs (r ∷ []))
