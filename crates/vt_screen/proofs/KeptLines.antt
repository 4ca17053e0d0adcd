-- The scrollback: its newest line is the last one of a ring and the first one of a screen.
use Rattle.vt_screen.proofs.Vocabulary.{◌≡◌, ℕ, ◌-◌, ◌<◌, ◌≤◌, List, [], ◌∷◌, ◌++◌, length, take, drop, map, reverse}
use Rattle.vt_screen.proofs.Vocabulary.{refl, sym, ap, ◌∙◌, arith, ⊎_elim, map-append, cases_lt}
use Rattle.std.proofs.lemmas.List.{take_all, take-append-le, take-append-drop, reverse-append, length-reverse}
use Rattle.std.proofs.lemmas.List.{length-drop}
use Rattle.std.proofs.Math.Seq.{take-length}
use Rattle.circular_buffer.specs.Buffer.{keep_last}
use Rattle.scrollback.proofs.Lasts.{keep_all}

-- the last items come first in reverse order
pub reverse-keep_last : {X : Type 0} (n : ℕ) (xs : List X) → reverse (keep_last n xs) ≡ take n (reverse xs)
reverse-keep_last {X} n xs =
    let k : ℕ = length xs - n in
    ⊎_elim
    (λ (h : n < length xs).
    let size : length (reverse (drop k xs)) ≡ n = length-reverse (drop k xs) ∙ length-drop k xs ∙ omega arith in
    let whole : reverse xs ≡ reverse (drop k xs) ++ reverse (take k xs) = ap reverse (sym (take-append-drop k xs))
    ∙ reverse-append (take k xs) (drop k xs) in
    sym (ap (take n) whole ∙ take-append-le n (reverse (drop k xs)) (reverse (take k xs)) (omega arith)
    ∙ ap (λ m. take m (reverse (drop k xs))) (sym size) ∙ take-length (reverse (drop k xs))))
    (λ (h : length xs ≤ n). ap reverse (keep_all n xs h)
    ∙ sym (take_all n (reverse xs) (omega (arith, length-reverse xs))))
    (cases_lt n (length xs))

-- one more line
pub reverse-with_line : {X : Type 0} (n : ℕ) (xs : List X) (x : X)
    → reverse (keep_last n (xs ++ x ∷ [])) ≡ take n (x ∷ reverse xs)
reverse-with_line n xs x = reverse-keep_last n (xs ++ x ∷ []) ∙ ap (take n) (reverse-append xs (x ∷ []))

pub reverse-map : {X Y : Type 0} (f : X → Y) (xs : List X) → reverse (map f xs) ≡ map f (reverse xs)
reverse-map f [] = refl
reverse-map f (x ∷ xs) =
    reverse-append (f x ∷ []) (map f xs) ∙ ap (λ ys. ys ++ f x ∷ []) (reverse-map f xs)
    ∙ sym (ap (map f) (reverse-append (x ∷ []) xs) ∙ map-append f (reverse xs) (x ∷ []))
