use Rattle.std.specs.Prelude.{◌≡◌, ℕ, zero, suc, ◌<◌, ◌≤◌, Bool, false, ◌&&◌, ◌==◌, cond, List, []}
use Rattle.std.specs.Prelude.{map, length, slice_index_or, slice_set}
use Rattle.std.specs.List.{range_with_len}
use Rattle.cells.specs.declared.cell.Cell.{Cell}
use Rattle.cells.specs.Line.{blank, marked, cell_at, is_left, is_right, kept, IsPaired, Source, Fresh, Old, spliced}

-- a line of a page; past its end there is an empty line
abbrev pub line_at : List (List Cell) → ℕ → List Cell
line_at page line = slice_index_or page line []

-- `rows` lines of `columns` cells, with halves paired in each
pub record IsPage (rows columns : ℕ) (page : List (List Cell)) : Type 0 where
  pub height : length page ≡ rows
  pub width : (line : ℕ) → line < rows → length (line_at page line) ≡ columns
  pub paired : (line : ℕ) → IsPaired (line_at page line)

-- lines of one width, with halves paired in each
abbrev pub IsWellFormed : List (List Cell) → Type 0
IsWellFormed page = IsPage (length page) (length (line_at page 0)) page

-- the sizes of a grid
pub record IsGridSize (rows columns : ℕ) : Type 0 where
  pub least_rows : 2 ≤ rows
  pub most_rows : rows ≤ 200
  pub least_columns : 2 ≤ columns
  pub most_columns : columns ≤ 300

-- a well-formed page of a grid's size
pub record IsGrid (page : List (List Cell)) : Type 0 where
  pub well_formed : IsWellFormed page
  pub size : IsGridSize (length page) (length (line_at page 0))

-- where the cell of a place comes from: it is new, or the old cell of a place
pub data Origin : Type 0 where
  New : Cell → Origin
  From : ℕ → ℕ → Origin

-- the cell of an origin
abbrev pub cell_from : List (List Cell) → Origin → Cell
cell_from page (New cell) = cell
cell_from page (From line column) = cell_at (line_at page line) column

-- the second origin has the other half of the left half at the first one
abbrev pub are_own_halves : Origin → Origin → Bool
are_own_halves (New left) (New right) = is_left left.shape && is_right right.shape
are_own_halves (From line left) (From other right) = (line == other) && (suc left == right)
are_own_halves (New left) (From line right) = false
are_own_halves (From line left) (New right) = false

-- a half becomes a blank unless its own other half comes along beside it
abbrev pub settled_cell : List (List Cell) → Origin → Origin → Origin → Cell
settled_cell page before here after =
    let cell : Cell = cell_from page here in
    kept cell.shape cell (are_own_halves here after) (are_own_halves before here)

-- the origin of the column before; the first column has none before it
abbrev pub origin_before : (ℕ → Origin) → ℕ → Origin
origin_before origin zero = New blank
origin_before origin (suc column) = origin column

-- the origin of the column after; the last column has none after it
abbrev pub origin_after : (ℕ → Origin) → ℕ → ℕ → Origin
origin_after origin width column = cond (suc column == width) (New blank) (origin (suc column))

-- a line whose columns have these origins
abbrev pub line_from : (ℕ → Origin) → ℕ → List (List Cell) → List Cell
line_from origin width page =
    map (λ column. settled_cell page (origin_before origin column) (origin column)
    (origin_after origin width column))
    (range_with_len 0 width)

-- the page in which each place has the cell of its origin
abbrev pub page_from : (ℕ → ℕ → Origin) → List (List Cell) → List (List Cell)
page_from origin page =
    map (λ line. line_from (origin line) (length (line_at page line)) page)
    (range_with_len 0 (length page))

-- the origin on a page, from a source in one of its lines
abbrev pub on_line : ℕ → Source → Origin
on_line line (Fresh cell) = New cell
on_line line (Old column) = From line column

-- one line is edited, and the others stay
abbrev pub edited : ℕ → (ℕ → Source) → ℕ → ℕ → Origin
edited at source line column = cond (line == at) (on_line line (source column)) (From line column)

-- in one line the cells before `at`, new ones, and the old ones from `rest` on
abbrev pub page_spliced : ℕ → ℕ → List Cell → ℕ → List (List Cell) → List (List Cell)
page_spliced line at fresh rest page =
    page_from (edited line (spliced at fresh rest (length (line_at page line)))) page

-- the cell of a place gets one more mark
abbrev pub page_marked : ℕ → ℕ → ℕ → List (List Cell) → List (List Cell)
page_marked line column mark page =
    slice_set page line
    (slice_set (line_at page line) column (marked (cell_at (line_at page line) column) mark))
