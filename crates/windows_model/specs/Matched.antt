-- Two tables whose rows belong together in pairs.
use Rattle.std.specs.Prelude.{List, [], ◌∷◌, Option, Some, None}

-- both tables have equally many rows, and each row of one is related to the row of the other at the
-- same place
abbrev pub Matched : {A B : Type 0} → (A → B → Type 0) → List A → List B → Type 0
Matched R [] [] = Unit {0}
Matched R (x ∷ xs) (y ∷ ys) = R x y × Matched R xs ys
Matched R _ _ = ⊥

-- both rows are there and related, or neither is there
abbrev pub BothOrNone : {A B : Type 0} → (A → B → Type 0) → Option A → Option B → Type 0
BothOrNone R None None = Unit {0}
BothOrNone R (Some a) (Some b) = R a b
BothOrNone R _ _ = ⊥
