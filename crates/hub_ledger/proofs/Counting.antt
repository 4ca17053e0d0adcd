-- If there are as many receipts as entries, no place is wrong exactly if each receipt has its
-- entry.
use Rattle.hub_ledger.proofs.Vocabulary.{◌≡◌, ℕ, zero, suc, ◌<◌, ◌≤◌, ◌+◌, Bool, true, false, List, [], ◌∷◌, length}
use Rattle.hub_ledger.proofs.Vocabulary.{Option, Some, None, refl, ap, sym, ◌∙◌, subst, arith, cond, add-one, inl, inr}
use Rattle.hub_ledger.proofs.Vocabulary.{◌↔◌, ◌⊎◌, ◌==◌, nat_lt, slice_get, AllByRecursion, nat_tests, slice_get_within}
use Rattle.hub_ledger.proofs.Vocabulary.{all_weaken, Entry, Receipt, AllBelow, AreOf, IsFirstWrong, IsOf, times}
use Rattle.hub_ledger.specs.Closing.{AreThere, AreTold, IsThere}
use Rattle.hub_ledger.proofs.Rising.{others_below, times_cons, times_none}

-- ---- how many receipts name a place below one

abbrev one : Bool → ℕ
one b = cond b 1 0

abbrev below : ℕ → List Receipt → ℕ
below n [] = 0
below n (r ∷ rs) = one (nat_lt r.place n) + below n rs

tick : (p n : ℕ) → one (nat_lt p (n + 1)) ≡ one (nat_lt p n) + one (p == n)
tick p n = grind (arith, nat_tests)

below_more : (n : ℕ) (rs : List Receipt) → below (n + 1) rs ≡ below n rs + times n rs
below_more n [] = refl
below_more n (r ∷ rs) = let t = tick r.place n in let rest = below_more n rs in let c = times_cons n r rs in omega
    (arith, t, rest, c)

below_zero : (rs : List Receipt) → below 0 rs ≡ 0
below_zero [] = refl
below_zero (r ∷ rs) = let h : one (nat_lt r.place 0) ≡ 0 = grind (arith, nat_tests) in let rest = below_zero rs in omega
    (arith, h, rest)

at_most : (b : Bool) → one b ≤ 1
at_most true = omega arith
at_most false = omega arith

below_le : (n : ℕ) (rs : List Receipt) → below n rs ≤ length rs
below_le n [] = omega arith
below_le n (r ∷ rs) = let h = at_most (nat_lt r.place n) in let rest = below_le n rs in omega (arith, h, rest)

below_all : (n : ℕ) (rs : List Receipt) → AllBelow rs n → below n rs ≡ length rs
below_all n [] all = refl
below_all n (r ∷ rs) all = let h = lower r.place n all.0 in let rest = below_all n rs all.1 in omega (arith, h, rest)
  where
    lower : (p m : ℕ) → p < m → one (nat_lt p m) ≡ 1
    lower p m l = grind (arith, nat_tests, l)

all_below : (n : ℕ) (rs : List Receipt) → below n rs ≡ length rs → AllBelow rs n
all_below n [] is = tt
all_below n (r ∷ rs) is =
    let h = at_most (nat_lt r.place n) in
    let le = below_le n rs in (
      lower r.place n (let e : one (nat_lt r.place n) + below n rs ≡ length (r ∷ rs) = is in omega (arith, e, h, le)),
      all_below n rs (let e : one (nat_lt r.place n) + below n rs ≡ length (r ∷ rs) = is in omega (arith, e, h, le)),
    ) where
      lower : (p m : ℕ) → one (nat_lt p m) ≡ 1 → p < m
      lower p m e = grind (arith, nat_tests, e)

-- ---- each place once

few : (rs : List Receipt) → ((k : ℕ) → times k rs ≤ 1) → (n : ℕ) → below n rs ≤ n
few rs apart zero = let z = below_zero rs in omega (arith, z)
few rs apart (suc n) =
    let more : below (suc n) rs ≡ below n rs + times n rs = ap (λ m. below m rs) (sym (add-one n)) ∙ below_more n rs in
    let one = apart n in
    let rest = few rs apart n in
    omega (arith, more, one, rest)

last_or : (k n : ℕ) → k < suc n → (k ≡ n) ⊎ (k < n)
last_or k n l = grind (arith, l)

once : (rs : List Receipt) → ((k : ℕ) → times k rs ≤ 1) → (n : ℕ) → below n rs ≡ n → (k : ℕ) → k < n → times k rs ≡ 1
once rs apart zero is k l = absurd (omega (arith, l))
once rs apart (suc n) is k l =
    let more : below (suc n) rs ≡ below n rs + times n rs = ap (λ m. below m rs) (sym (add-one n)) ∙ below_more n rs in
    let one = apart n in
    let le = few rs apart n in
    let here : times n rs ≡ 1 = omega (arith, more, one, le, is) in
    let rest : below n rs ≡ n = omega (arith, more, one, le, is) in
    elim (last_or k n l) [ inl same ↦ ap (λ j. times j rs) same ∙ here | inr less ↦ once rs apart n rest k less ]

full : (rs : List Receipt) (n : ℕ) → ((k : ℕ) → k < n → times k rs ≡ 1) → below n rs ≡ n
full rs zero each = below_zero rs
full rs (suc n) each =
    let more : below (suc n) rs ≡ below n rs + times n rs = ap (λ m. below m rs) (sym (add-one n)) ∙ below_more n rs in
    let here = each n (omega arith) in
    let rest = full rs n (λ k l. each k (omega (arith, l))) in
    omega (arith, more, here, rest)

-- ---- receipts and entries

got : (es : List Entry) (k : ℕ) → k < length es → (e : Entry) × (slice_get es k ≡ Some e)
got [] k l = absurd (omega (arith, l))
got (e ∷ es) zero l = (e, refl)
got (e ∷ es) (suc k) l = got es k (omega (arith, l))

each_there : (es : List Entry) (rs : List Receipt) → AllBelow rs (length es)
    → ((k : ℕ) (e : Entry) → slice_get es k ≡ Some e → AreOf k e rs) → AllByRecursion (IsThere es) rs
each_there es [] all right = tt
each_there es (r ∷ rs) all right =
    let at = got es r.place all.0 in
    ((at.0, at.1, (right r.place at.0 at.1).0 refl), each_there es rs all.1 (λ k e is. (right k e is).1))

split : {P : Type 0} (p q : ℕ) → (p < q → P) → (q ≤ p → P) → P
split {P = P} p q low high = on (nat_lt p q) refl where
  on : (b : Bool) → nat_lt p q ≡ b → P
  on true is = low (grind (arith, nat_tests, is))
  on false is = high (grind (arith, nat_tests, is))

told_there : (es : List Entry) (rs : List Receipt) → length rs ≡ length es → AreTold es rs (length es) → AreThere es rs
told_there es rs same told =
    let one : (k : ℕ) → k < length es → times k rs ≡ 1 = λ k l. (let at = got es k l in (told k at.0 l at.1).once) in
    let all : AllBelow rs (length es) = all_below (length es) rs (full rs (length es) one ∙ sym same) in
    record {
      apart = λ k. split {P = times k rs ≤ 1} k (length es) (λ l. (let h = one k l in omega (arith, h)))
          (λ le. (let h = times_none k rs (others_below rs (length es) k le all) in omega (arith, h)));
      each = each_there es rs all (λ k e at. (told k e (slice_get_within es k e at) at).right);
    }

there_told : (es : List Entry) (rs : List Receipt) → length rs ≡ length es → AreThere es rs → AreTold es rs (length es)
there_told es rs same there k e l at =
    let all : AllBelow rs (length es) = all_weaken (IsThere es) (λ (r : Receipt). r.place < length es) rs
    (λ r is. slice_get_within es r.place is.0 is.1) there.each in
    record {
      once = once rs there.apart (length es) (below_all (length es) rs all ∙ same) k l;
      right = all_weaken (IsThere es) (λ (r : Receipt). r.place ≡ k → IsOf e r) rs
          (λ r is at_k.
          (let g : Some is.0 ≡ Some e = sym is.1 ∙ ap (slice_get es) at_k
          ∙ at in let h : is.0 ≡ e = cc (g) in subst (λ (x : Entry). IsOf x r) h is.2)) there.each;
    }

pub none_means : (es : List Entry) (rs : List Receipt) (o : Option ℕ) → length es ≡ length rs → IsFirstWrong es rs o
    → (o ≡ None) ↔ AreThere es rs
none_means es rs None same told = ((λ is. told_there es rs (sym same) told), (λ there. refl))
none_means es rs (Some w) same wrong = (
  (λ is. absurd (cc (is))),
  (λ there. absurd
      (wrong.1.2
      (there_told es rs (sym same) there w wrong.1.0 (slice_get_within es w wrong.1.0 wrong.1.1) wrong.1.1))),
)
