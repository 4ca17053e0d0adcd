-- Loops over lists, one element more.
use Rattle.trail_rights.proofs.Vocabulary.{◌≡◌, ◌∙◌, ℕ, zero, suc, ◌+◌, ◌<◌, ◌≤◌, arith, Bool, true, false, ◌&&◌, List}
use Rattle.trail_rights.proofs.Vocabulary.{[], ◌∷◌, ◌++◌, Some, refl, ap, sym, append-nil, length, take, drop}
use Rattle.trail_rights.proofs.Vocabulary.{slice_index_or, add-one, cond, option_to_list, flat_map, list_all, drop-next}
use Rattle.std.specs.Prelude.{filter, slice_get}
use Rattle.std.proofs.lemmas.List.{take_more, flat_map_more}
use Rattle.std.proofs.lemmas.Option.{slice_get_within, get_or_from_slice_get}

-- what holds of all that are left holds of the next, and of all after it
pub all_next : {X : Type 0} (p : X → Bool) (xs : List X) (i : ℕ) (d : X) → i < length xs
    → list_all p (drop i xs) ≡ (p (slice_index_or xs i d) && list_all p (drop (i + 1) xs))
all_next p xs i d below = ap (list_all p) (sym (drop-next xs i d below))

pub passes : {X : Type 0} (p : X → Bool) (xs : List X) (i : ℕ) (d : X) (b : Bool) → i < length xs
    → p (slice_index_or xs i d) ≡ true → list_all p (drop i xs) ≡ b → list_all p (drop (i + 1) xs) ≡ b
passes p xs i d b below is all = sym (all_next p xs i d below ∙ ap (λ c. c && list_all p (drop (i + 1) xs)) is) ∙ all

pub stops : {X : Type 0} (p : X → Bool) (xs : List X) (i : ℕ) (d : X) (b : Bool) → i < length xs
    → p (slice_index_or xs i d) ≡ false → list_all p (drop i xs) ≡ b → false ≡ b
stops p xs i d b below is all = sym (all_next p xs i d below ∙ ap (λ c. c && list_all p (drop (i + 1) xs)) is) ∙ all

filter_append : {X : Type 0} (p : X → Bool) (xs ys : List X) → filter p (xs ++ ys) ≡ filter p xs ++ filter p ys
filter_append p [] ys = refl
filter_append p (x ∷ xs) ys = by (p x) (filter_append p xs ys)
  where
    by : (b : Bool) → filter p (xs ++ ys) ≡ filter p xs ++ filter p ys
        → cond b (x ∷ filter p (xs ++ ys)) (filter p (xs ++ ys)) ≡ cond b (x ∷ filter p xs) (filter p xs) ++ filter p ys
    by true e = ap (λ l. x ∷ l) e
    by false e = e

filter_next : {X : Type 0} (p : X → Bool) (xs : List X) (i : ℕ) (x : X) → take (i + 1) xs ≡ take i xs ++ x ∷ []
    → filter p (take (i + 1) xs) ≡ filter p (take i xs) ++ cond (p x) (x ∷ []) []
filter_next p xs i x e = ap (filter p) e ∙ filter_append p (take i xs) (x ∷ [])

pub keeps_next : {X : Type 0} (p : X → Bool) (xs kept : List X) (i : ℕ) (x : X) → take (i + 1) xs ≡ take i xs ++ x ∷ []
    → p x ≡ true → kept ≡ filter p (take i xs) → kept ++ x ∷ [] ≡ filter p (take (i + 1) xs)
keeps_next p xs kept i x e is so = ap (λ l. l ++ x ∷ []) so
    ∙ ap (λ b. filter p (take i xs) ++ cond b (x ∷ []) []) (sym is) ∙ sym (filter_next p xs i x e)

pub leaves_next : {X : Type 0} (p : X → Bool) (xs kept : List X) (i : ℕ) (x : X) → take (i + 1) xs ≡ take i xs ++ x ∷ []
    → p x ≡ false → kept ≡ filter p (take i xs) → kept ≡ filter p (take (i + 1) xs)
leaves_next p xs kept i x e is so = so ∙ sym (append-nil (filter p (take i xs)))
    ∙ ap (λ b. filter p (take i xs) ++ cond b (x ∷ []) []) (sym is) ∙ sym (filter_next p xs i x e)

-- the next of a list whose element is looked up
pub looked_up : {X : Type 0} (xs : List X) (i : ℕ) (x : X) → slice_get xs i ≡ Some x
    → take (i + 1) xs ≡ take i xs ++ x ∷ []
looked_up xs i x at = take_more xs i x (slice_get_within xs i x at)
    ∙ ap (λ y. take i xs ++ y ∷ []) (get_or_from_slice_get xs i x x at)

pub take_past : {X : Type 0} (i : ℕ) (xs : List X) → length xs ≤ i → take i xs ≡ xs
take_past zero [] over = refl
take_past zero (x ∷ xs) over = absurd (omega arith)
take_past (suc i) [] over = refl
take_past (suc i) (x ∷ xs) over = ap (λ l. x ∷ l) (take_past i xs (omega arith))

-- one element more of what is joined
pub joins_next : {X A : Type 0} (f : X → List A) (xs : List X) (i : ℕ) (x : X) → take (i + 1) xs ≡ take i xs ++ x ∷ []
    → flat_map f (take i xs) ++ f x ≡ flat_map f (take (i + 1) xs)
joins_next f xs i x e = flat_map_more f [] (take i xs) x ∙ ap (flat_map f) (sym e)

take_suc : {X : Type 0} (xs : List X) (i : ℕ) → take i xs ++ option_to_list (slice_get xs i) ≡ take (suc i) xs
take_suc [] zero = refl
take_suc [] (suc i) = refl
take_suc (x ∷ xs) zero = refl
take_suc (x ∷ xs) (suc i) = ap (λ l. x ∷ l) (take_suc xs i)

pub take_next : {X : Type 0} (xs : List X) (i : ℕ) → take i xs ++ option_to_list (slice_get xs i) ≡ take (i + 1) xs
take_next xs i = take_suc xs i ∙ ap (λ n. take n xs) (sym (add-one i))

pub from_none : {X : Type 0} (before all rest : List X) → before ≡ [] → all ≡ before ++ rest → all ≡ rest
from_none before all rest none is = is ∙ ap (λ l. l ++ rest) none
