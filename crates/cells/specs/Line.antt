use Rattle.std.specs.Prelude.{◌≡◌, ℕ, zero, suc, ◌+◌, ◌-◌, ◌≤◌, Bool, true, false, ◌&&◌, ◌==◌, nat_lt, nat_le, not}
use Rattle.std.specs.Prelude.{cond, List, map, length, slice_index_or, slice_set}
use Rattle.std.specs.List.{range_with_len}
use Rattle.cells.specs.declared.cell.Shape.{Shape}
use Rattle.cells.specs.declared.cell.Shape.TheVariants.{Narrow, Left, Right}
use Rattle.cells.specs.declared.marks.Marks.{Marks}
use Rattle.cells.specs.declared.marks.Marks.TheVariants.{Bare, One, Two}
use Rattle.cells.specs.declared.rendition.Rendition.{Rendition}
pub use Rattle.cells.specs.Rendition.{plain}
use Rattle.cells.specs.declared.cell.Cell.{Cell}

-- a space without rendition, marks or protection
abbrev pub blank : Cell
blank =
    record { shape = Narrow; character = 32; marks = Bare; rendition = plain; is_protected = false }

-- a new character of width 1, and then the halves of one of width 2
abbrev pub narrow_cell : ℕ → Rendition → Bool → Cell
narrow_cell character rendition is_protected =
    record {
      shape = Narrow;
      character = character;
      marks = Bare;
      rendition = rendition;
      is_protected = is_protected;
    }

abbrev pub left_cell : ℕ → Rendition → Bool → Cell
left_cell character rendition is_protected =
    record {
      shape = Left;
      character = character;
      marks = Bare;
      rendition = rendition;
      is_protected = is_protected;
    }

abbrev pub right_cell : ℕ → Rendition → Bool → Cell
right_cell character rendition is_protected =
    record {
      shape = Right;
      character = character;
      marks = Bare;
      rendition = rendition;
      is_protected = is_protected;
    }

-- a run of characters of width 1
abbrev pub narrow_cells : List ℕ → Rendition → Bool → List Cell
narrow_cells characters rendition is_protected =
    map (λ character. narrow_cell character rendition is_protected) characters

-- marks and one more; it is dropped if there are two (Unicode core specification, section 5.13)
abbrev pub joined : Marks → ℕ → Marks
joined Bare mark = One mark
joined (One first) mark = Two first mark
joined (Two first second) mark = Two first second

-- a cell with one more mark
abbrev pub marked : Cell → ℕ → Cell
marked cell mark = record cell { marks = joined cell.marks mark }

-- the visible part of a cell
abbrev pub unprotected : Cell → Cell
unprotected cell = record cell { is_protected = false }

-- the cell of a column, and a blank past the end
abbrev pub cell_at : List Cell → ℕ → Cell
cell_at cells column = slice_index_or cells column blank

abbrev pub is_left : Shape → Bool
is_left Narrow = false
is_left Left = true
is_left Right = false

abbrev pub is_right : Shape → Bool
is_right Narrow = false
is_right Left = false
is_right Right = true

-- a left half stands in a column if and only if a right half stands in the next column
pub record IsPaired (cells : List Cell) : Type 0 where
  pub first : is_right (cell_at cells 0).shape ≡ false
  pub next : (column : ℕ)
      → is_left (cell_at cells column).shape ≡ is_right (cell_at cells (suc column)).shape

-- the cells from a column on are blank
abbrev pub IsBlankFrom : ℕ → List Cell → Type 0
IsBlankFrom used cells = (column : ℕ) → used ≤ column → cell_at cells column ≡ blank

-- a line in which halves are paired, and which is blank from a column on
pub record IsUsed (used : ℕ) (cells : List Cell) : Type 0 where
  pub paired : IsPaired cells
  pub inside : used ≤ length cells
  pub blank : IsBlankFrom used cells

-- where the cell of a column comes from: it is new, or the old cell of a column
pub data Source : Type 0 where
  Fresh : Cell → Source
  Old : ℕ → Source

-- the cell of a source
abbrev pub taken : List Cell → Source → Cell
taken cells (Fresh cell) = cell
taken cells (Old column) = cell_at cells column

-- the second source has the other half of the left half at the first one
abbrev pub are_halves : Source → Source → Bool
are_halves (Fresh left) (Fresh right) = is_left left.shape && is_right right.shape
are_halves (Old left) (Old right) = suc left == right
are_halves (Fresh left) (Old right) = false
are_halves (Old left) (Fresh right) = false

-- a half becomes a blank unless its own other half comes along beside it
abbrev pub kept : Shape → Cell → Bool → Bool → Cell
kept Narrow cell after before = cell
kept Left cell after before = cond after cell blank
kept Right cell after before = cond before cell blank

abbrev pub settled : List Cell → Source → Source → Source → Cell
settled cells before here after =
    let cell : Cell = taken cells here in
    kept cell.shape cell (are_halves here after) (are_halves before here)

-- the source of the column before; the first column has none before it
abbrev pub source_before : (ℕ → Source) → ℕ → Source
source_before source zero = Fresh blank
source_before source (suc column) = source column

-- the source of the column after; the last column has none after it
abbrev pub source_after : (ℕ → Source) → ℕ → ℕ → Source
source_after source width column = cond (suc column == width) (Fresh blank) (source (suc column))

-- the line in which each column has the cell of its source
abbrev pub cells_from : (ℕ → Source) → List Cell → List Cell
cells_from source cells =
    map (λ column. settled cells (source_before source column) (source column)
    (source_after source (length cells) column))
    (range_with_len 0 (length cells))

-- a wide character that the boundary before a column cuts becomes two blanks
abbrev pub cut_of : ℕ → List Cell → List Cell
cut_of column cells =
    cond (is_right (cell_at cells column).shape)
    (slice_set (slice_set cells (column - 1) blank) column blank) cells

-- the cells before `at` stay, then come new ones, then the old ones from `rest` on, and then blanks
-- (ECMA-48: ICH, 8.3.64; DCH, 8.3.26; ECH, 8.3.38; EL, 8.3.41; IRM, 7.2.10)
abbrev pub spliced : ℕ → List Cell → ℕ → ℕ → ℕ → Source
spliced at fresh rest width column =
    cond (nat_lt column at) (Old column)
    (cond (nat_lt column (at + length fresh)) (Fresh (cell_at fresh (column - at)))
    (cond (nat_lt (column + rest) (at + length fresh + width))
    (Old (column + rest - (at + length fresh)))
    (Fresh blank)))

-- the cells before `at`, new ones, and the old ones from `rest` on
abbrev pub cells_spliced : ℕ → List Cell → ℕ → List Cell → List Cell
cells_spliced at fresh rest cells = cells_from (spliced at fresh rest (length cells)) cells

-- the unprotected cells from `from` up to but not including `end` are erased (DECSEL, VT220
-- Programmer Reference Manual)
abbrev pub unprotected_erased : List Cell → ℕ → ℕ → ℕ → Source
unprotected_erased cells from end column =
    cond (nat_le from column && nat_lt column end && not (cell_at cells column).is_protected)
    (Fresh blank) (Old column)

-- the right half of a wide character, in the column after its left half
abbrev pub right_follows : List Cell → ℕ → Bool
right_follows fresh zero = false
right_follows fresh (suc column) =
    is_left (cell_at fresh column).shape && is_right (cell_at fresh (suc column)).shape

-- the new cell of a column; a half without its other half beside it becomes a blank
abbrev pub fresh_at : List Cell → ℕ → Cell
fresh_at fresh column =
    kept (cell_at fresh column).shape (cell_at fresh column)
    (is_left (cell_at fresh column).shape && is_right (cell_at fresh (suc column)).shape)
    (right_follows fresh column)

-- a character of width 1 without rendition, marks or protection
abbrev pub IsPlain : Cell → Type 0
IsPlain cell = cell ≡ narrow_cell cell.character plain false

-- the cells from a column on are such characters
abbrev pub ArePlainFrom : ℕ → List Cell → Type 0
ArePlainFrom from cells = (column : ℕ) → from ≤ column → IsPlain (cell_at cells column)

-- what a line notes beside its cells: the column from which on it is blank, and whether all its
-- cells are known to be plain
pub record IsNoted (used : ℕ) (is_plain : Bool) (cells : List Cell) : Type 0 where
  pub used_part : IsUsed used cells
  pub plain : is_plain ≡ true → ArePlainFrom 0 cells
