-- When a terminal shows a view.
use Rattle.std.specs.Prelude.{◌≡◌, ℕ, Bool, true, false, List, [], Option, Some, None}
use Rattle.cells.specs.declared.cell.Cell.{Cell}
use Rattle.cells.specs.Line.{cell_at, unprotected}
use Rattle.cells.specs.Page.{line_at, IsPage}
use Rattle.terminal_model.specs.declared.state.Position.{Position}
use Rattle.terminal_model.specs.Screen.{Page, Screen, blank_page}
use Rattle.terminal_model.specs.Reading.{Terminal, IsTerminal, reads}

-- what a terminal is to show: cells, the cursor's place or none if it is hidden, and what its keys
-- are to send
pub record View : Type 0 where
  pub page : Page
  pub cursor : Option Position
  pub has_application_arrows : Bool
  pub has_application_keypad : Bool

-- only blanks, and the cursor in the first place
abbrev pub blank_view : ℕ → ℕ → View
blank_view rows columns = record {
  page = blank_page rows columns;
  cursor = Some (record { line = 0; column = 0 });
  has_application_arrows = false;
  has_application_keypad = false;
}

-- what is seen at a place: its cell without protection
abbrev pub seen_at : Page → ℕ → ℕ → Cell
seen_at page line column = unprotected (cell_at (line_at page line) column)

-- two views look alike; protection isn't seen
pub record LooksLike (v w : View) : Type 0 where
  pub cells : (line column : ℕ) → seen_at v.page line column ≡ seen_at w.page line column
  pub cursor : v.cursor ≡ w.cursor
  pub arrows : v.has_application_arrows ≡ w.has_application_arrows
  pub keypad : v.has_application_keypad ≡ w.has_application_keypad

-- nothing is known of a terminal, or it is known to show something else
abbrev pub NeedsDraw : Option View → View → Type 0
NeedsDraw None v = Prim.Unit {0}
NeedsDraw (Some known) v = LooksLike known v → ⊥

-- the terminal is known to show this view already
abbrev pub NeedsNoDraw : Option View → View → Type 0
NeedsNoDraw None v = ⊥
NeedsNoDraw (Some known) v = LooksLike known v

abbrev pub ShowsCursor : Option Position → Screen → Type 0
ShowsCursor None x = x.state.modes.shows_cursor ≡ false
ShowsCursor (Some p) x =
    (x.state.modes.shows_cursor ≡ true) × (x.state.line ≡ p.line) × (x.state.column ≡ p.column)

-- the screen shows the view: it has its size, its cells, not inverted, its cursor and its two modes
pub record Shows (v : View) (x : Screen) : Type 0 where
  pub size : IsPage x.state.rows x.state.columns v.page
  pub cells : (line column : ℕ) → seen_at x.page line column ≡ seen_at v.page line column
  pub upright : x.state.modes.is_inverted ≡ false
  pub cursor : ShowsCursor v.cursor x
  pub arrows : x.state.modes.has_application_arrows ≡ v.has_application_arrows
  pub keypad : x.state.modes.has_application_keypad ≡ v.has_application_keypad

-- a terminal of a size, in any state and inside any character, sequence or string
pub record IsOfSize (rows columns : ℕ) (t : Terminal) : Type 0 where
  pub terminal : IsTerminal t
  pub rows_are : t.screen.state.rows ≡ rows
  pub columns_are : t.screen.state.columns ≡ columns

-- after it has read the bytes, the terminal shows the view, and it has answered nothing
pub record ShowsFrom (v : View) (bytes : List ℕ) (t : Terminal) : Type 0 where
  pub shows : Shows v (reads t bytes).terminal.screen
  pub quiet : (reads t bytes).reports ≡ []

-- every terminal of the size shows the view after it has read the bytes
abbrev pub ShowsFromAny : List ℕ → ℕ → ℕ → View → Type 0
ShowsFromAny bytes rows columns v = (t : Terminal) → IsOfSize rows columns t → ShowsFrom v bytes t
