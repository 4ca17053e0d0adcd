-- A list at the front of a fixed array, filled up with 0. The lemmas stand here and not in proofs/,
-- since a Model cites them, and its ghost imports take nothing from a crate's own proofs.
use Rattle.std.specs.Prelude.{◌≡◌, ℕ, ◌-◌, ◌≤◌, List, ◌++◌, length, take, drop, replicate}
use Rattle.std.proofs.Common.{take-append-drop, length-take-le, ap, ◌∙◌, sym, subst}

abbrev pub IsFront : ℕ → ℕ → List ℕ → Type 0
IsFront room count array =
    (count ≤ room) × (length array ≡ room) × (drop count array ≡ replicate (room - count) 0)

-- the array with a list at its front
abbrev pub array_of : ℕ → List ℕ → List ℕ
array_of room xs = xs ++ replicate (room - length xs) 0

pub length-front : (room count : ℕ) (array : List ℕ) → IsFront room count array
    → length (take count array) ≡ count
length-front room count array h =
    let P : ℕ → Type 0 = λ n. count ≤ n in
    length-take-le count array (subst P (sym h.1) h.0)

pub array_of-take : (room count : ℕ) (array : List ℕ) → IsFront room count array
    → array_of room (take count array) ≡ array
array_of-take room count array h =
    ap (λ n. take count array ++ replicate (room - n) 0) (length-front room count array h)
    ∙ ap (λ r. take count array ++ r) (sym h.2)
    ∙ take-append-drop count array
