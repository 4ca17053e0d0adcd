-- Bits, read byte by byte, and the place at which they begin.
use Rattle.command_lang.proofs.Vocabulary.{◌≡◌, ℕ, suc, ◌+◌, ◌<◌, ◌≤◌, Bool, true, false, not, ◌&&◌, cond, List, []}
use Rattle.command_lang.proofs.Vocabulary.{◌∷◌, ◌++◌, length, drop, get_or, Option, Some, None, refl, sym, ap, ◌∙◌}
use Rattle.command_lang.proofs.Vocabulary.{arith, unwrap_or, drop-cons, nat_lt, nat_tests, is_sign}
use Rattle.std.specs.List.{position_or_len}

drop-at : (cs : List ℕ) (i x : ℕ) → i < length cs → x ≡ get_or cs i x → drop i cs ≡ x ∷ drop (i + 1) cs
drop-at cs i x h e =
    let k : suc i ≡ i + 1 = omega arith in
    drop-cons cs i x h ∙ (λ j. sym e j ∷ drop (k j) cs)

place_le : (xs : List ℕ) → position_or_len is_sign xs ≤ length xs
place_le [] = omega arith
place_le (x ∷ xs) = by (is_sign x) (place_le xs)
  where
    by : (b : Bool) → position_or_len is_sign xs ≤ length xs
        → cond (not b) (1 + position_or_len is_sign xs) 0 ≤ suc (length xs)
    by true h = omega arith
    by false h = omega (arith, h)

pub first-or : (xs : List ℕ) (r : Option ℕ) (n : ℕ)
    → r ≡ cond (nat_lt (position_or_len is_sign xs) (length xs)) (Some (position_or_len is_sign xs)) None
    → n ≡ unwrap_or r (length xs) → n ≡ position_or_len is_sign xs
first-or xs r n h e = e ∙ ap (λ o. unwrap_or o (length xs)) h
    ∙ by (nat_lt (position_or_len is_sign xs) (length xs)) refl
  where
    by : (b : Bool) → nat_lt (position_or_len is_sign xs) (length xs) ≡ b
        → unwrap_or (cond b (Some (position_or_len is_sign xs)) None) (length xs) ≡ position_or_len is_sign xs
    by true t = refl
    by false t = let l = place_le xs in grind (arith, nat_tests)

-- a text may be cut at its first sign
sign_at : (xs : List ℕ) → position_or_len is_sign xs < length xs
    → is_sign (get_or xs (position_or_len is_sign xs) 0) ≡ true
sign_at [] h = absurd (omega (arith, h))
sign_at (x ∷ xs) h = by (is_sign x) refl (sign_at xs) h
  where
    by : (b : Bool) → is_sign x ≡ b
        → (position_or_len is_sign xs < length xs → is_sign (get_or xs (position_or_len is_sign xs) 0) ≡ true)
        → cond (not b) (1 + position_or_len is_sign xs) 0 < suc (length xs)
        → is_sign (get_or (x ∷ xs) (cond (not b) (1 + position_or_len is_sign xs) 0) 0) ≡ true
    by true e again h = e
    by false e again h = ap (λ n. is_sign (get_or (x ∷ xs) n 0))
        (the (1 + position_or_len is_sign xs ≡ suc (position_or_len is_sign xs)) (omega arith))
        ∙ again (omega (arith, h))
      where
        the : (A : Type 0) → A → A
        the A a = a

small_sign : (x : ℕ) → is_sign x ≡ true → x < 128
small_sign x h = grind (arith, nat_tests)

pub sign_cut : (xs : List ℕ) (n : ℕ) → n ≡ position_or_len is_sign xs → (n ≤ length xs)
    × (n < length xs → 128 ≤ get_or xs n 0 → 192 ≤ get_or xs n 0)
sign_cut xs n e = (
  let l = place_le xs in omega (arith, e, l),
  λ h a. absurd
      (let s = small_sign (get_or xs n 0) (ap (λ m. is_sign (get_or xs m 0)) e ∙ sign_at xs (omega (arith, e, h))) in
      omega (arith, a, s)),
)
