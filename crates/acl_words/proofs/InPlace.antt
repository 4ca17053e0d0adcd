-- Facts of a loop that changes each item of a list in place.
use Rattle.std.proofs.Common.{◌≡◌, ◌∙◌, ℕ, zero, suc, ◌+◌, ◌<◌, ◌≤◌, ap, sym, refl, arith, List, [], ◌∷◌}
use Rattle.std.proofs.Common.{slice_index_or, slice_set, length, map, add-one}

-- the list, with f applied to each item at an index below i
abbrev pub mapped_below : {X : Type 0} → (X → X) → ℕ → List X → List X
mapped_below f zero xs = xs
mapped_below f (suc i) [] = []
mapped_below f (suc i) (x ∷ xs) = f x ∷ mapped_below f i xs

pub mapped_below-suc : {X : Type 0} (f : X → X) (i : ℕ) (xs : List X) (d : X) → i < length xs
    → slice_set (mapped_below f i xs) i (f (slice_index_or (mapped_below f i xs) i d)) ≡ mapped_below f (suc i) xs
mapped_below-suc f zero [] d below = absurd (omega arith)
mapped_below-suc f zero (x ∷ xs) d below = refl
mapped_below-suc f (suc i) [] d below = absurd (omega arith)
mapped_below-suc f (suc i) (x ∷ xs) d below = ap (λ ys. f x ∷ ys) (mapped_below-suc f i xs d (omega arith))

pub mapped_below-all : {X : Type 0} (f : X → X) (i : ℕ) (xs : List X) → length xs ≤ i → mapped_below f i xs ≡ map f xs
mapped_below-all f zero [] over = refl
mapped_below-all f zero (x ∷ xs) over = absurd (omega arith)
mapped_below-all f (suc i) [] over = refl
mapped_below-all f (suc i) (x ∷ xs) over = ap (λ ys. f x ∷ ys) (mapped_below-all f i xs (omega arith))

pub mapped_below-more : {X : Type 0} (f : X → X) (i : ℕ) (xs ys : List X) (d : X) → ys ≡ mapped_below f i xs
    → i < length xs → slice_set ys i (f (slice_index_or ys i d)) ≡ mapped_below f (i + 1) xs
mapped_below-more f i xs ys d e below = ap (λ zs. slice_set zs i (f (slice_index_or zs i d))) e
    ∙ mapped_below-suc f i xs d below ∙ ap (λ k. mapped_below f k xs) (sym (add-one i))

pub length-mapped_below : {X : Type 0} (f : X → X) (i : ℕ) (xs : List X) → length (mapped_below f i xs) ≡ length xs
length-mapped_below f zero xs = refl
length-mapped_below f (suc i) [] = refl
length-mapped_below f (suc i) (x ∷ xs) = ap suc (length-mapped_below f i xs)
