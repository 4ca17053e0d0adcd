-- What frames do to a terminal, step by step.
use Rattle.std.specs.Prelude.{◌≡◌, ℕ, ◌+◌, ◌-◌, ◌==◌, ◌<◌, ◌≤◌, Bool, ◌&&◌, cond, nat_lt}
use Rattle.std.specs.Prelude.{true, false, List, [], ◌++◌, length, Option, Some, None, is_some}
use Rattle.cells.specs.declared.cell.Shape.{Shape}
use Rattle.cells.specs.declared.cell.Shape.TheVariants.{Narrow, Left, Right}
use Rattle.cells.specs.declared.marks.Marks.{Marks}
use Rattle.cells.specs.declared.marks.Marks.TheVariants.{Bare, One, Two}
use Rattle.cells.specs.declared.cell.Cell.{Cell}
use Rattle.cells.specs.Line.{blank, cell_at, is_left, is_right, unprotected, right_cell, IsPaired}
use Rattle.cells.specs.Page.{line_at}
use Rattle.control_parser.specs.declared.parser.Func.TheVariants.{Print}
use Rattle.control_parser.specs.Spelling.{spelling}
use Rattle.terminal_model.specs.Screen.{Page, Screen, IsSound, starting_tabs}
use Rattle.terminal_model.specs.Reading.{Act, ready, reads}
use Rattle.terminal_model.specs.declared.state.Position.{Position}
use Rattle.terminal_model.specs.Shows.{View, seen_at, ShowsCursor}
use Rattle.terminal_model.specs.Drawing.{Draws, AreSpelled, drawn_state}
use Rattle.terminal_model.specs.Drawable.{IsDrawableLine, HasHalves}
use Rattle.draw_check.specs.Functions.{AreDraws}
use Rattle.redraw.specs.declared.pen.Pen.{Pen}
use Rattle.redraw.specs.declared.command.Command.{Command}
use Rattle.redraw.specs.Commands.{func_of}
use Rattle.redraw.specs.declared.command.Command.TheVariants.{MoveTo, NextLine, Forward}

-- a line as a function of its columns
abbrev pub Row : Type 0
Row = ℕ → Cell

-- what is seen on a screen
abbrev pub seen : Screen → ℕ → Row
seen x line column = seen_at x.page line column

-- what stays of a line below a column; a left half that is cut off from its right half is a blank
abbrev pub kept_below : Row → ℕ → Row
kept_below row at c = cond ((c + 1 == at) && is_left (row c).shape) blank (row c)

-- what stays of a line from a column on; a right half that is cut off from its left half is a blank
abbrev pub kept_from : Row → ℕ → Row
kept_from row at c = cond ((c == at) && is_right (row c).shape) blank (row c)

-- New cells in n columns from `at` on; a wide character that is cut in two on either side is a
-- blank.
abbrev pub row_written : Row → ℕ → ℕ → Row → Row
row_written row at n fresh c =
    cond (nat_lt c at) (kept_below row at c)
    (cond (nat_lt c (at + n)) (fresh c) (kept_from row (at + n) c))

-- A line that is drawn up to a column; a wide character that is cut in two there is a blank.
abbrev pub mixed : Row → Row → ℕ → Row
mixed old new at c = cond (nat_lt c at) (new c) (kept_from old at c)

-- if something is known of a value, the value is this one
abbrev pub Knows : {A : Type 0} → Option A → A → Type 0
Knows None x = Prim.Unit {0}
Knows (Some known) x = x ≡ known

-- a screen on which a frame is drawn, and what is known of its cursor and rendition
pub record Drawing (rows columns : ℕ) (pen : Pen) (x : Screen) : Type 0 where
  pub sound : IsSound x
  pub rows_are : x.state.rows ≡ rows
  pub columns_are : x.state.columns ≡ columns
  pub state_is : x.state ≡ drawn_state x.state
  pub tabs_are : x.tabs ≡ starting_tabs x.state.columns
  pub none_saved : x.saved ≡ None
  pub line_is : Knows pen.line x.state.line
  pub column_is : Knows pen.column x.state.column
  pub rendition_is : Knows pen.rendition x.state.rendition

-- the bytes lead from one screen to the other: the terminal answers nothing, the acts are discreet
-- and spare, and the bytes spell these acts alone, by functions that draws use
pub record Leads (old new : Page) (x : Screen) (bytes : List ℕ) (y : Screen) : Type 0 where
  pub acts : List Act
  pub reading : reads (ready x) bytes ≡ record { terminal = ready y; reports = []; acts = acts }
  pub draws : Draws old new acts
  pub spelled : AreSpelled bytes acts
  pub used : AreDraws bytes

-- bytes were appended that lead each screen that P holds of to a screen that R relates to it
pub record Takes (old new : Page) (P : Screen → Type 0) (R : Screen → Screen → Type 0)
    (before after : List ℕ) : Type 0 where
  pub bytes : List ℕ
  pub appended : after ≡ before ++ bytes
  pub leads : (x : Screen) → P x → (y : Screen) × Leads old new x bytes y × R x y

-- cells and modes are unchanged
pub record Keeps (rows columns : ℕ) (pen : Pen) (x y : Screen) : Type 0 where
  pub drawing : Drawing rows columns pen y
  pub cells : (l c : ℕ) → seen y l c ≡ seen x l c
  pub modes : y.state.modes ≡ x.state.modes

-- a line gets new cells in n columns from `at` on
pub record Writes (rows columns : ℕ) (pen : Pen) (line at n : ℕ) (fresh : Row) (x y : Screen)
    : Type 0 where
  pub drawing : Drawing rows columns pen y
  pub here : (c : ℕ) → c < columns → seen y line c ≡ row_written (seen x line) at n fresh c
  pub elsewhere : (l c : ℕ) → (l ≡ line → ⊥) → seen y l c ≡ seen x l c
  pub modes : y.state.modes ≡ x.state.modes

-- a line was drawn further, up to a column
pub record DrawsLine (rows columns : ℕ) (pen : Pen) (line : ℕ) (before after : Row) (at : ℕ)
    (x y : Screen) : Type 0 where
  pub drawing : Drawing rows columns pen y
  pub here : (c : ℕ) → c < columns → seen y line c ≡ mixed before after at c
  pub elsewhere : (l c : ℕ) → (l ≡ line → ⊥) → seen y l c ≡ seen x l c
  pub modes : y.state.modes ≡ x.state.modes

-- the lines above `at` were drawn
pub record DrawsPage (rows columns : ℕ) (pen : Pen) (old new : Page) (at : ℕ) (x y : Screen)
    : Type 0 where
  pub drawing : Drawing rows columns pen y
  pub above : (l c : ℕ) → l < at → c < columns → seen y l c ≡ seen_at new l c
  pub below : (l c : ℕ) → (l < at → ⊥) → l < rows → c < columns → seen y l c ≡ seen_at old l c
  pub modes : y.state.modes ≡ x.state.modes

-- the screen shows a line, a page
pub record HasLine (rows columns : ℕ) (pen : Pen) (line : ℕ) (row : Row) (x : Screen) : Type 0 where
  pub drawing : Drawing rows columns pen x
  pub cells : (c : ℕ) → c < columns → seen x line c ≡ row c

pub record HasPage (rows columns : ℕ) (pen : Pen) (page : Page) (x : Screen) : Type 0 where
  pub drawing : Drawing rows columns pen x
  pub cells : (l c : ℕ) → l < rows → c < columns → seen x l c ≡ seen_at page l c

-- the right half of a wide character whose left half is a cell
abbrev pub half_of : Cell → Cell
half_of cell = right_cell cell.character cell.rendition false

-- a cell, followed by its right half
abbrev pub row_of : Cell → ℕ → Row
row_of cell at c = cond (c == at) (unprotected cell) (half_of cell)

-- a cell stands at a place of the page; a left half has its right half beside it
pub record Stands (page : Page) (line column : ℕ) (cell : Cell) : Type 0 where
  pub here : cell_at (line_at page line) column ≡ cell
  pub beside : is_left cell.shape ≡ true → seen_at page line (column + 1) ≡ half_of cell

-- the number of columns that a cell's character takes
abbrev pub width_of : Shape → ℕ
width_of Narrow = 1
width_of Left = 2
width_of Right = 1

-- a character and its marks
abbrev pub mark_bytes : Marks → List ℕ
mark_bytes Bare = []
mark_bytes (One a) = spelling (Print a)
mark_bytes (Two a b) = spelling (Print a) ++ spelling (Print b)

abbrev pub glyph_bytes : Cell → List ℕ
glyph_bytes cell = spelling (Print cell.character) ++ mark_bytes cell.marks

-- a command that moves the pen to a place; None if the pen is there
abbrev pub IsWay : Pen → ℕ → ℕ → Option Command → Type 0
IsWay pen line column None = (pen.line ≡ Some line) × (pen.column ≡ Some column)
IsWay pen line column (Some (MoveTo l c)) = (l ≡ line) × (c ≡ column)
IsWay pen line column (Some NextLine) = (0 < line) × (pen.line ≡ Some (line - 1)) × (column ≡ 0)
IsWay pen line column (Some (Forward n)) =
    (pen.line ≡ Some line) × (pen.column ≡ Some (column - n)) × (0 < n) × (n ≤ column)
IsWay pen line column (Some other) = ⊥

-- there is no right half at this place
abbrev pub IsWhole : Page → ℕ → ℕ → Type 0
IsWhole page line column = is_right (cell_at (line_at page line) column).shape ≡ false

-- a piece of a line was drawn, from a column to the one before the next
pub record DrawsPiece (old new : Page) (rows columns : ℕ) (p q : Pen) (line column next : ℕ)
    (before after : List ℕ) : Type 0 where
  pub inside : next ≤ columns
  pub whole : IsWhole new line next
  pub takes :
      Takes old new (Drawing rows columns p)
      (Writes rows columns q line column (next - column) (seen_at new line)) before after

-- a line was drawn, up to a column
pub record DrawsUpTo (old new : Page) (rows columns : ℕ) (p q : Pen) (line column : ℕ)
    (before after : List ℕ) : Type 0 where
  pub inside : column ≤ columns
  pub whole : IsWhole new line column
  pub takes :
      Takes old new (HasLine rows columns p line (seen_at old line))
      (DrawsLine rows columns q line (seen_at old line) (seen_at new line) column) before after

-- a line of each of two pages; a terminal can show both lines
pub record AreLines (old new : Page) (line : ℕ) (a b : List Cell) : Type 0 where
  pub old_is : line_at old line ≡ a
  pub new_is : line_at new line ≡ b
  pub same_width : length a ≡ length b
  pub old_paired : IsPaired a
  pub new_paired : IsPaired b
  pub old_halves : HasHalves a
  pub new_drawable : IsDrawableLine b

-- the bytes of a command; none if the mode is already as it has to be
abbrev pub changed : Bool → Bool → Command → List ℕ
changed true true command = []
changed true false command = spelling (func_of command)
changed false true command = spelling (func_of command)
changed false false command = []

-- the screen shows a page, and has these modes
pub record Stage (rows columns : ℕ) (pen : Pen) (page : Page) (arrows keypad shows : Bool)
    (x : Screen) : Type 0 where
  pub drawing : Drawing rows columns pen x
  pub cells : (l c : ℕ) → l < rows → c < columns → seen x l c ≡ seen_at page l c
  pub arrows_are : x.state.modes.has_application_arrows ≡ arrows
  pub keypad_is : x.state.modes.has_application_keypad ≡ keypad
  pub shows_are : x.state.modes.shows_cursor ≡ shows

-- the screen shows a page, has these modes, and has its cursor where the view has it
pub record Final (rows columns : ℕ) (pen : Pen) (page : Page) (arrows keypad : Bool)
    (cursor : Option Position) (x : Screen) : Type 0 where
  pub stage : Stage rows columns pen page arrows keypad (is_some cursor) x
  pub cursor_is : ShowsCursor cursor x

-- the screen shows a view's page, and has its modes
abbrev pub HasView : ℕ → ℕ → Pen → View → Bool → Screen → Type 0
HasView rows columns pen v shows =
    Stage rows columns pen v.page v.has_application_arrows v.has_application_keypad shows

-- the screen shows a view
abbrev pub ShowsView : ℕ → ℕ → Pen → View → Screen → Type 0
ShowsView rows columns pen v =
    Final rows columns pen v.page v.has_application_arrows v.has_application_keypad v.cursor
