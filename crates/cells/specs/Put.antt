-- New cells put over as many old ones.
use Rattle.std.specs.Prelude.{◌≡◌, ℕ, ◌+◌, ◌-◌, ◌<◌, ◌≤◌, Bool, cond, List, length, slice_set}
use Rattle.cells.specs.declared.cell.Cell.{Cell}
use Rattle.cells.specs.declared.cell.Shape.TheVariants.{Narrow}
use Rattle.cells.specs.Line.{blank, cell_at, is_right}

-- The cells from a column up to but not including another one are of width 1.
abbrev pub AreNarrowIn : List Cell → ℕ → ℕ → Type 0
AreNarrowIn cells from end =
    (column : ℕ) → from ≤ column → column < end → (cell_at cells column).shape ≡ Narrow

-- cells of width 1
abbrev pub AreNarrow : List Cell → Type 0
AreNarrow cells = AreNarrowIn cells 0 (length cells)

-- the new cells stand from `at` on, and the other columns keep the old ones
pub record IsPut (at : ℕ) (fresh old cells : List Cell) : Type 0 where
  pub width : length cells ≡ length old
  pub front : (column : ℕ) → column < at → cell_at cells column ≡ cell_at old column
  pub placed : (column : ℕ) → column < length fresh
      → cell_at cells (at + column) ≡ cell_at fresh column
  pub rest : (column : ℕ) → at + length fresh ≤ column → cell_at cells column ≡ cell_at old column

-- halves beside new cells that have lost their other half are blank: the one before `at` if a wide character
-- was cut there, and a right one at `end`
abbrev pub mended : ℕ → ℕ → Bool → List Cell → List Cell
mended at end is_cut cells =
    let front : List Cell = cond is_cut (slice_set cells (at - 1) blank) cells in
    cond (is_right (cell_at front end).shape) (slice_set front end blank) front
