-- Tables of pairs: a code or a value, and what it stands for.
use Rattle.std.specs.Prelude.{ℕ, ◌==◌, if◌then◌else◌, List, [], ◌∷◌, Option, Some, None}

-- the value of a number in a table; None if the table doesn't have it
abbrev pub entry_at : {A : Type 0} → List (ℕ × A) → ℕ → Option A
entry_at [] n = None
entry_at (entry ∷ entries) n = if n == entry.0 then Some entry.1 else entry_at entries n

-- the value of a number in a table; a default if the table doesn't have it
abbrev pub entry_or : {A : Type 0} → A → List (ℕ × A) → ℕ → A
entry_or other [] n = other
entry_or other (entry ∷ entries) n = if n == entry.0 then entry.1 else entry_or other entries n
