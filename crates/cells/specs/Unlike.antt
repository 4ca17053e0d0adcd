use Rattle.std.specs.Prelude.{◌≡◌, ◌≢◌, ℕ, ◌<◌, ◌≤◌, List, length}
use Rattle.cells.specs.declared.cell.Cell.{Cell}
use Rattle.cells.specs.Line.{cell_at, unprotected}

-- two lines look alike in a column; protection isn't seen
abbrev pub IsAlike : List Cell → List Cell → ℕ → Type 0
IsAlike a b column = unprotected (cell_at a column) ≡ unprotected (cell_at b column)

abbrev pub IsUnlike : List Cell → List Cell → ℕ → Type 0
IsUnlike a b column = unprotected (cell_at a column) ≢ unprotected (cell_at b column)

-- they look alike from a column on
abbrev pub AreAlikeFrom : List Cell → List Cell → ℕ → Type 0
AreAlikeFrom a b from = (column : ℕ) → from ≤ column → column < length a → IsAlike a b column

-- the first column from `from` on in which they look different
pub record IsFirstUnlike (a b : List Cell) (from start : ℕ) : Type 0 where
  pub from_on : from ≤ start
  pub inside : start < length a
  pub alike_before : (column : ℕ) → from ≤ column → column < start → IsAlike a b column
  pub unlike : IsUnlike a b start

-- the first column from `start` on in which they look alike, or the width
pub record IsEndOfUnlike (a b : List Cell) (start end : ℕ) : Type 0 where
  pub start_on : start ≤ end
  pub inside : end ≤ length a
  pub unlike : (column : ℕ) → start ≤ column → column < end → IsUnlike a b column
  pub alike_after : end < length a → IsAlike a b end

-- the first run of columns, from `from` on, in which they look different, up to `end`
pub record IsNextUnlike (a b : List Cell) (from start end : ℕ) : Type 0 where
  pub first : IsFirstUnlike a b from start
  pub last : IsEndOfUnlike a b start end
  pub some : start < end
