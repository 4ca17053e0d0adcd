-- A terminal's screen, and how it starts.
use Rattle.std.specs.Prelude.{◌≡◌, ℕ, ◌-◌, ◌%◌, ◌==◌, ◌<◌, ◌≤◌, Bool, true, false, not, ◌&&◌, List}
use Rattle.std.specs.Prelude.{[], ◌∷◌, length, map, take, replicate, Option, None, IfSome}
use Rattle.std.specs.List.{range_with_len}
use Rattle.charsets.specs.declared.decoder.Coding.TheVariants.{Utf8}
use Rattle.charsets.specs.Shifts.{starting as starting_shifts}
use Rattle.cells.specs.declared.cell.Cell.{Cell}
use Rattle.cells.specs.Line.{blank, plain, IsPaired, Source}
use Rattle.cells.specs.Page.{line_at, IsPage, IsGridSize, page_from, edited}
use Rattle.terminal_model.specs.declared.state.Modes.{Modes}
use Rattle.terminal_model.specs.declared.state.State.{State}
use Rattle.terminal_model.specs.declared.state.Saved.{Saved}

-- lines of cells, the top line first
abbrev pub Page : Type 0
Page = List (List Cell)

-- A screen: its state, for each column whether it has a tab stop, what DECSC saved, its page, and
-- its scrollback: the kept lines, newest first, and how many it keeps at most.
pub record Screen : Type 0 where
  pub state : State
  pub tabs : List Bool
  pub saved : Option Saved
  pub page : Page
  pub kept : Page
  pub keep : ℕ

-- the scrollback with one more line: of all lines that left, the last `keep` stay
abbrev pub with_newest : ℕ → List Cell → Page → Page
with_newest keep line kept = take keep (line ∷ kept)

-- the starting values of the modes: ?7 and ?25 are set, the others are reset, and the keypad is
-- numeric (VT220 manual, chapter 4)
abbrev pub starting_modes : Modes
starting_modes = record {
  inserts = false;
  starts_lines = false;
  has_application_arrows = false;
  is_inverted = false;
  counts_from_margin = false;
  wraps = true;
  shows_cursor = true;
  has_application_keypad = false;
}

-- the starting values, in UTF-8: the cursor in the first place, no rendition, no protection, ASCII,
-- margins around the whole page
abbrev pub starting_state : ℕ → ℕ → State
starting_state rows columns = record {
  rows = rows;
  columns = columns;
  line = 0;
  column = 0;
  is_wrap_pending = false;
  top = 0;
  bottom = rows - 1;
  rendition = plain;
  is_protecting = false;
  modes = starting_modes;
  shifts = starting_shifts;
  coding = Utf8;
  has_eight_bit_reports = false;
  joining = None;
}

-- every eighth column has a stop, except the first column (VT220 manual, chapter 4: tab stops)
abbrev pub starting_tabs : ℕ → List Bool
starting_tabs columns =
    map (λ column. not (column == 0) && (column % 8 == 0)) (range_with_len 0 columns)

abbrev pub blank_page : ℕ → ℕ → Page
blank_page rows columns = replicate rows (replicate columns blank)

-- a new screen
abbrev pub starting : ℕ → ℕ → ℕ → Screen
starting rows columns keep = record {
  state = starting_state rows columns;
  tabs = starting_tabs columns;
  saved = None;
  page = blank_page rows columns;
  kept = [];
  keep = keep;
}

-- a place on the page
abbrev pub IsInside : ℕ → ℕ → ℕ → ℕ → Type 0
IsInside rows columns line column = (line < rows) × (column < columns)

-- kept lines: each as wide as the page, with halves paired
pub record AreKept (columns : ℕ) (kept : Page) : Type 0 where
  pub width : (n : ℕ) → n < length kept → length (line_at kept n) ≡ columns
  pub paired : (n : ℕ) → IsPaired (line_at kept n)

-- The page is well formed and has the screen's size; cursor, margins, saved place and joined cell
-- are on it; the kept lines have its width, and aren't more than they may be.
pub record IsSound (x : Screen) : Type 0 where
  pub size : IsGridSize x.state.rows x.state.columns
  pub sized : IsPage x.state.rows x.state.columns x.page
  pub cursor : IsInside x.state.rows x.state.columns x.state.line x.state.column
  pub margins : x.state.top < x.state.bottom
  pub bottom_inside : x.state.bottom < x.state.rows
  pub tabs : length x.tabs ≡ x.state.columns
  pub joined : IfSome x.state.joining (λ p. IsInside x.state.rows x.state.columns p.line p.column)
  pub saved : IfSome x.saved (λ p. IsInside x.state.rows x.state.columns p.line p.column)
  pub kept : AreKept x.state.columns x.kept
  pub few : length x.kept ≤ x.keep

-- a screen with another state, and then with another page too
abbrev pub with_state : Screen → State → Screen
with_state x s = record x { state = s }

abbrev pub with_page : Screen → State → Page → Screen
with_page x s page = record x { state = s; page = page }

-- the cursor's line is edited, and the other lines stay
abbrev pub line_edited : State → (ℕ → Source) → Page → Page
line_edited s source page = page_from (edited s.line source) page
