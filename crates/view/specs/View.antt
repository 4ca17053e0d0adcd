-- What a client is to see is a view, as the terminal's definitions have it: a page, the cursor's
-- place, and two modes.
use Rattle.std.specs.Prelude.{◌≡◌, ℕ, ◌+◌, ◌<◌, ◌≤◌, false, List, length, replicate, Option, Some, None, IfSome}
use Rattle.cells.specs.declared.cell.Cell.{Cell}
use Rattle.cells.specs.Page.{line_at, IsGrid, page_from, edited}
use Rattle.cells.specs.Line.{Source, blank, spliced}
use Rattle.terminal_model.specs.declared.state.Position.{Position}
use Rattle.terminal_model.specs.Screen.{IsInside}
use Rattle.terminal_model.specs.Shows.{View}
use Rattle.view.specs.declared.view.Cursor.{Cursor}
use Rattle.view.specs.declared.view.Cursor.TheVariants.{Hidden, At}
use Rattle.view.specs.declared.view.KeyModes.{KeyModes}

abbrev pub place_of : Cursor → Option Position
place_of Hidden = None
place_of (At line column) = Some (record { line = line; column = column })

-- a view with these modes
abbrev pub view_with : List (List Cell) → Option Position → KeyModes → View
view_with page cursor modes = record {
  page = page;
  cursor = cursor;
  has_application_arrows = modes.has_application_arrows;
  has_application_keypad = modes.has_application_keypad;
}

-- the modes of a view
abbrev pub key_modes : View → KeyModes
key_modes v = record {
  has_application_arrows = v.has_application_arrows;
  has_application_keypad = v.has_application_keypad;
}

-- a blank page without a cursor, and the modes as a terminal starts
abbrev pub blank_without_cursor : ℕ → ℕ → View
blank_without_cursor rows columns = record {
  page = replicate rows (replicate columns blank);
  cursor = None;
  has_application_arrows = false;
  has_application_keypad = false;
}

-- a place that the page has, counted from line 0 and column 0
abbrev pub LiesOn : List (List Cell) → Position → Type 0
LiesOn page p = IsInside (length page) (length (line_at page 0)) p.line p.column

-- the page is a grid, and the cursor lies on it
pub record IsView (page : List (List Cell)) (cursor : Option Position) : Type 0 where
  pub grid : IsGrid page
  pub inside : IfSome cursor (λ p. LiesOn page p)

-- the view's page has this number of lines and of columns
pub record HasSize (rows columns : ℕ) (v : View) : Type 0 where
  pub rows_are : length v.page ≡ rows
  pub columns_are : length (line_at v.page 0) ≡ columns

-- the new view's page has as many lines and columns as the old one's
abbrev pub KeepsSize : View → View → Type 0
KeepsSize old new = HasSize (length old.page) (length (line_at old.page 0)) new

-- if the cursor's place lies on the page, the cursor is put there, and nothing else changes
abbrev pub PutsCursor : Cursor → View → View → Type 0
PutsCursor cursor old new =
    IfSome (place_of cursor) (λ p. LiesOn old.page p)
    → new ≡ record old { cursor = place_of cursor }

-- a line in which these cells replace the old ones from a column on
abbrev pub written_in : ℕ → List Cell → List Cell → ℕ → Source
written_in column cells line = spliced column cells (column + length cells) (length line)

-- a page in which these cells replace old ones
abbrev pub written : ℕ → ℕ → List Cell → List (List Cell) → List (List Cell)
written line column cells page =
    page_from (edited line (written_in column cells (line_at page line))) page

-- if the page has room for the cells at this place, they are put there; nothing else changes
abbrev pub PutsCells : ℕ → ℕ → List Cell → View → View → Type 0
PutsCells line column cells old new =
    line < length old.page → column + length cells ≤ length (line_at old.page 0)
    → new ≡ record old { page = written line column cells old.page }
