-- Digits that come one by one.
use Rattle.control_parser.proofs.Vocabulary.{◌≡◌, refl, ℕ, zero, suc, ◌-◌, ◌<◌, ◌≤◌, List, [], ◌∷◌, length, take, set}
use Rattle.control_parser.proofs.Vocabulary.{get_or, ap, arith, with_last, longer, digit_added}

-- the last of the first n + 1 values changes
pub digit_packed : (n d y : ℕ) (xs : List ℕ) → n < length xs → y ≡ longer (get_or xs n 0) d
    → take (suc n) (set xs n y) ≡ digit_added (take (suc n) xs) d
digit_packed n d y [] h e = absurd (omega arith)
digit_packed zero d y (x ∷ xs) h e = ap (λ v. v ∷ []) e
digit_packed (suc n) d y (x ∷ []) h e = absurd (omega arith)
digit_packed (suc n) d y (x ∷ z ∷ xs) h e = ap (λ l. x ∷ l) (digit_packed n d y (z ∷ xs) (omega arith) e)

pub digit_added-packed : (count d y : ℕ) (xs now : List ℕ) → 0 < count → count ≤ length xs → take count xs ≡ now
    → y ≡ longer (get_or xs (count - 1) 0) d
    → take count (set xs (count - 1) y) ≡ digit_added now d
digit_added-packed zero d y xs now p q h e = absurd (omega arith)
digit_added-packed (suc n) d y xs now p q h e =
    let less : suc n - 1 ≡ n = omega arith in
    rw (less, digit_packed n d y xs (omega arith) (rw less at e), h) refl

pub digit-last : (values : List ℕ) (value d : ℕ)
    → digit_added (with_last values value) d ≡ with_last values (longer value d)
digit-last [] value d = refl
digit-last (n ∷ []) value d = refl
digit-last (n ∷ m ∷ []) value d = refl
digit-last (n ∷ m ∷ k ∷ ns) value d = ap (λ l. n ∷ l) (digit-last (m ∷ k ∷ ns) value d)
