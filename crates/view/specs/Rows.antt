-- Rows of cells, and pieces that are laid over a page.
use Rattle.std.specs.Prelude.{◌≡◌, ℕ, ◌+◌, ◌<◌, nat_lt, Bool, true, false, if◌then◌else◌, List, length, slice_index_or}
use Rattle.cells.specs.declared.cell.Cell.{Cell}
use Rattle.cells.specs.Line.{blank, cell_at, is_left, is_right}
use Rattle.cells.specs.Page.{line_at}
use Rattle.regions.specs.declared.rect.Rect.{Rect}
use Rattle.regions.specs.Pages.{has}
use Rattle.terminal_model.specs.Places.{place}
use Rattle.terminal_model.specs.Screen.{IsInside}
use Rattle.terminal_model.specs.Shows.{View}
use Rattle.view.specs.Granted.{Window, Part, Piece, cursor_of, arrows_of, keypad_of}
use Rattle.view.specs.Granted.{shown_cell, window_cell, part_cell, caption_cell, box_cell, cell_in}
use Rattle.view.specs.Texts.{uncut}

-- these are n cells, one for each column
pub record IsRow (cell : ℕ → Cell) (columns : ℕ) (cells : List Cell) : Type 0 where
  pub width : length cells ≡ columns
  pub cells_are : (column : ℕ) → column < columns → cell_at cells column ≡ cell column

-- a column of a line as it is shown, if the line isn't cut; blanks follow the line
abbrev pub whole_cell : Bool → List Cell → ℕ → Cell
whole_cell is_inverted line column =
    if nat_lt column (length line) then shown_cell is_inverted (cell_at line column) else blank

-- a column of a line that is cut at its end: a blank stands for a half of a wide character there
abbrev pub cut_cell : List Cell → ℕ → Cell
cut_cell line column = uncut (length line) column (cell_at line column) blank

-- ---- rows of a region

-- one of the n rows that show a window
abbrev pub IsWindowRow : Window → ℕ → ℕ → ℕ → List Cell → Type 0
IsWindowRow w rows columns row cells = IsRow (window_cell w rows columns row) columns cells

-- one of the n rows above a caption
abbrev pub IsPartRow : Part → ℕ → ℕ → ℕ → List Cell → Type 0
IsPartRow part rows columns row cells = IsRow (part_cell part rows columns row) columns cells

-- the row of a region's caption
abbrev pub IsCaptionRow : Bool → Part → ℕ → List Cell → Type 0
IsCaptionRow is_focused part columns cells =
    IsRow (caption_cell is_focused part columns) columns cells

-- a row of a region's box
abbrev pub IsBoxRow : Rect → Bool → Part → ℕ → List Cell → Type 0
IsBoxRow rect is_focused part row cells =
    IsRow (box_cell rect is_focused part row) rect.columns cells

-- ---- pieces

-- a place of a page
abbrev pub IsOnPage : List (List Cell) → ℕ → ℕ → Type 0
IsOnPage page line column = IsInside (length page) (length (line_at page 0)) line column

-- a rectangle of a page, which has a place for rows, and one for columns
pub record IsPlaced (r : Rect) (page : List (List Cell)) : Type 0 where
  pub tall : 0 < r.rows
  pub wide : 0 < r.columns
  pub inside : (line column : ℕ) → has r line column ≡ true → IsOnPage page line column

-- a rectangle of a page, at whose edges no wide character is cut in two
pub record IsFree (r : Rect) (page : List (List Cell)) : Type 0 where
  pub wide : 0 < r.columns
  pub inside : (line column : ℕ) → has r line column ≡ true → IsOnPage page line column
  pub starts : (line column : ℕ) → has r line column ≡ true
      → column ≡ r.column → is_right (place page line column).shape ≡ false
  pub ends : (line column : ℕ) → has r line column ≡ true
      → column + 1 ≡ r.column + r.columns → is_left (place page line column).shape ≡ false

-- a piece with an empty rectangle
abbrev pub nowhere : Piece
nowhere = record {
  rect = record { line = 0; column = 0; rows = 0; columns = 0 };
  cell = λ row column. blank;
}

-- the rectangles of these pieces are free
abbrev pub AreFree : List Piece → List (List Cell) → Type 0
AreFree ps page = (n : ℕ) → n < length ps → IsFree (slice_index_or ps n nowhere).rect page

-- the cell at a place of a page, after a piece was laid over the page
abbrev pub laid : Piece → List (List Cell) → ℕ → ℕ → Cell
laid p page line column =
    if has p.rect line column then cell_in p line column else place page line column

-- a piece was laid over the page of a view, and nothing else changed
pub record Lays (p : Piece) (old new : View) : Type 0 where
  pub rows_are : length new.page ≡ length old.page
  pub columns_are : length (line_at new.page 0) ≡ length (line_at old.page 0)
  pub cells_are : (line column : ℕ) → place new.page line column ≡ laid p old.page line column
  pub rest : new ≡ record old { page = new.page }

-- one row of a rectangle
abbrev pub row_of : Rect → ℕ → Rect
row_of r row = record r { line = r.line + row; rows = 1 }

abbrev pub row_piece : Rect → List Cell → Piece
row_piece r cells = record { rect = r; cell = λ row column. cell_at cells column }

-- a view with the cursor and the modes of a region
abbrev pub focused_on : Rect → Part → View → View
focused_on box part v = record v {
  cursor = cursor_of box part;
  has_application_arrows = arrows_of part;
  has_application_keypad = keypad_of part;
}

-- the view has the cursor and the modes of a region, and its page is unchanged
abbrev pub FocusesOn : Rect → Part → View → View → Type 0
FocusesOn box part old new = new ≡ focused_on box part old
