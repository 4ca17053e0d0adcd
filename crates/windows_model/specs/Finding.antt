-- Rows that are found by their serial numbers.
use Rattle.std.specs.Prelude.{ℕ, ◌==◌, List, [], ◌∷◌, Option, Some, None, if◌then◌else◌}

-- the first row with this serial
abbrev pub row_of : {A : Type 0} → (A → ℕ) → List A → ℕ → Option A
row_of serial_of [] serial = None
row_of serial_of (row ∷ rows) serial =
    if serial_of row == serial then Some row else row_of serial_of rows serial

-- the rows, with a new row in place of the first one with this serial
abbrev pub with_row : {A : Type 0} → (A → ℕ) → List A → ℕ → A → List A
with_row serial_of [] serial new = []
with_row serial_of (row ∷ rows) serial new =
    if serial_of row == serial then new ∷ rows else row ∷ with_row serial_of rows serial new
