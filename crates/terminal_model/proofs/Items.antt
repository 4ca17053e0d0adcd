-- What holds of an item of a list, or of what stands for one past its end.
use Rattle.terminal_model.proofs.Vocabulary.{ℕ, ◌<◌, ◌≤◌, List, ◌∷◌, length, map, set, take, replicate, get_or, arith}
use Rattle.terminal_model.proofs.Vocabulary.{range_with_len, common_steps, length-map-range_with_len}
use Rattle.terminal_model.proofs.Vocabulary.{get_or-map-range_with_len, get_or_past}

pub item-replicated : {A : Type 0} (P : A → Type 0) (n : ℕ) (a d : A) (k : ℕ) → P a → P d
    → P (get_or (replicate n a) k d)
item-replicated P n a d k p q = grind (arith, common_steps)

pub item-built : {A : Type 0} (P : A → Type 0) (f : ℕ → A) (n : ℕ) (d : A) (k : ℕ) → (k < n → P (f k)) → P d
    → P (get_or (map f (range_with_len 0 n)) k d)
item-built P f n d k p q = grind (arith, get_or-map-range_with_len f 0 n k k, get_or_past, length-map-range_with_len)

pub item-mapped : {A : Type 0} (P : A → Type 0) (f : A → A) (xs : List A) (d : A) (k : ℕ) → P (f (get_or xs k d)) → P d
    → P (get_or (map f xs) k d)
item-mapped P f xs d k p q = grind (arith, common_steps)

pub item-set : {A : Type 0} (P : A → Type 0) (xs : List A) (at : ℕ) (new d : A) (k : ℕ) → P new → P (get_or xs k d)
    → P d → P (get_or (set xs at new) k d)
item-set P xs at new d k p q r = grind (arith, common_steps)

-- of a list with one item more in front, of which so many stay
pub item-newest : {A : Type 0} (P : A → Type 0) (keep : ℕ) (new : A) (xs : List A) (d : A) (k : ℕ) → P new
    → ((n : ℕ) → n < length xs → P (get_or xs n d)) → (length (take keep (new ∷ xs)) ≤ k → P d)
    → P (get_or (take keep (new ∷ xs)) k d)
item-newest P keep new xs d k p q r = grind (arith, common_steps)
