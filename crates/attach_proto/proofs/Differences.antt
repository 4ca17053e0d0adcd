-- Two lists of bytes are the same if the differences of their bytes, put together, are zero.
use Rattle.std.proofs.Common.{◌≡◌, ◌↔◌, ℕ, ◌+◌, ◌<◌, List, length, get_or, take, refl, sym, ◌∙◌, ap, arith, bit_or}
use Rattle.std.specs.Int.Bits.{bit_xor, xor_add_and, xor_self}
use Rattle.std.proofs.lemmas.Nat.{le_or_l, le_or_r, and_le_l, and_le_r}
use Rattle.std.proofs.lemmas.List.{take_more, get_or-take}
use Rattle.std.proofs.lemmas.Grind.{common_steps}

same_bits : (a b : ℕ) → bit_xor a b ≡ 0 → a ≡ b
same_bits a b e = omega (arith, xor_add_and a b, and_le_l a b, and_le_r a b, e)

no_bits : (a b : ℕ) → a ≡ b → bit_xor a b ≡ 0
no_bits a b e = rw e (xor_self b)

left_is_nothing : (a b : ℕ) → bit_or a b ≡ 0 → a ≡ 0
left_is_nothing a b e = omega (arith, le_or_l a b, e)

right_is_nothing : (a b : ℕ) → bit_or a b ≡ 0 → b ≡ 0
right_is_nothing a b e = omega (arith, le_or_r a b, e)

both_are_nothing : (a b : ℕ) → a ≡ 0 → b ≡ 0 → bit_or a b ≡ 0
both_are_nothing a b ea eb = rw (ea, eb) refl

front : (i : ℕ) (xs : List ℕ) → take i (take (i + 1) xs) ≡ take i xs
front i xs = grind (arith, common_steps)

same_place : (xs ys : List ℕ) (i : ℕ) → take (i + 1) xs ≡ take (i + 1) ys
    → get_or xs i 0 ≡ get_or ys i 0
same_place xs ys i e = sym (get_or-take (i + 1) xs i 0 (omega arith))
    ∙ (ap (λ zs. get_or zs i 0) e ∙ get_or-take (i + 1) ys i 0 (omega arith))

same_front : (xs ys : List ℕ) (i : ℕ) → take (i + 1) xs ≡ take (i + 1) ys → take i xs ≡ take i ys
same_front xs ys i e = sym (front i xs) ∙ (ap (take i) e ∙ front i ys)

joined : (xs ys : List ℕ) (i : ℕ) → i < length xs → i < length ys → take i xs ≡ take i ys
    → get_or xs i 0 ≡ get_or ys i 0
    → take (i + 1) xs ≡ take (i + 1) ys
joined xs ys i ix iy e f = rw (take_more xs i 0 ix, take_more ys i 0 iy, e, f) refl

pub more : (xs ys : List ℕ) (i d : ℕ) → i < length xs → i < length ys
    → ((d ≡ 0) ↔ (take i xs ≡ take i ys))
    → (bit_or d (bit_xor (get_or xs i 0) (get_or ys i 0)) ≡ 0) ↔ (take (i + 1) xs ≡ take (i + 1) ys)
more xs ys i d ix iy so = (
  λ e. joined xs ys i ix iy (so.0 (left_is_nothing d _ e)) (same_bits _ _ (right_is_nothing d _ e)),
  λ e. both_are_nothing d _ (so.1 (same_front xs ys i e)) (no_bits _ _ (same_place xs ys i e)),
)
