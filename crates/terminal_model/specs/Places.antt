-- The cell at each place afterwards.
use Rattle.std.specs.Prelude.{◌≡◌, ℕ, ◌+◌, ◌-◌, ◌==◌, Bool, true, false, ◌&&◌, nat_lt, nat_le}
use Rattle.std.specs.Prelude.{if◌then◌else◌, List, [], ◌∷◌, length, None, cond, ◌++◌}
use Prim.Native.Char.{code}
use Rattle.charsets.specs.declared.shifts.CharacterSet.TheVariants.{Ascii}
use Rattle.charsets.specs.Shifts.{set_at}
use Rattle.cells.specs.declared.cell.Cell.{Cell}
use Rattle.cells.specs.declared.rendition.Colour.{Colour}
use Rattle.cells.specs.declared.rendition.Rendition.{Rendition}
use Rattle.cells.specs.Line.{blank, cell_at, is_left, is_right, marked, narrow_cell, left_cell, right_cell}
use Rattle.cells.specs.Page.{line_at}
use Rattle.terminal_model.specs.declared.state.Position.{Position}
use Rattle.terminal_model.specs.declared.state.State.{State}
use Rattle.terminal_model.specs.Screen.{Page, Screen, IsSound}
use Rattle.terminal_model.specs.Functions.{colour_digit, foreground_base, background_base}

-- the cell at a place, and a blank outside of the page
abbrev pub place : Page → ℕ → ℕ → Cell
place page line column = cell_at (line_at page line) column

-- New cells over a line, from a column on. A half of a wide character beside them that lost its
-- other half is a blank.
abbrev pub overlaid_cell : List Cell → ℕ → List Cell → ℕ → Cell
overlaid_cell fresh at old column =
    if nat_le at column && nat_lt column (at + length fresh) then cell_at fresh (column - at)
    else (if (column + 1 == at) && is_left (cell_at old column).shape then blank
    else (if (column == at + length fresh) && is_right (cell_at old column).shape then blank
    else cell_at old column))

-- new cells over the cursor's line, from a column on; the other lines stay
abbrev pub overlaid_at_cursor : List Cell → Screen → ℕ → ℕ → Cell
overlaid_at_cursor fresh x line column =
    if line == x.state.line
    then overlaid_cell fresh x.state.column (line_at x.page x.state.line) column
    else place x.page line column

-- one more mark on the cell at a place
abbrev pub with_mark : ℕ → ℕ → ℕ → Page → ℕ → ℕ → Cell
with_mark at_line at_column mark page line column =
    if (line == at_line) && (column == at_column) then marked (place page line column) mark
    else place page line column

-- a sound screen that prints a character at the cursor: no wrap is pending, IRM is reset, GL is
-- ASCII, no single shift is pending
pub record IsPlain (x : Screen) : Type 0 where
  pub sound : IsSound x
  pub none_pending : x.state.is_wrap_pending ≡ false
  pub none_moved : x.state.modes.inserts ≡ false
  pub ascii : set_at x.state.shifts x.state.shifts.gl ≡ Ascii
  pub none_shifted : x.state.shifts.single ≡ None

-- the new cells of a character at the cursor
abbrev pub narrow_at : Screen → ℕ → List Cell
narrow_at x c = narrow_cell c x.state.rendition x.state.is_protecting ∷ []

abbrev pub wide_at : Screen → ℕ → List Cell
wide_at x c =
    left_cell c x.state.rendition x.state.is_protecting
    ∷ right_cell c x.state.rendition x.state.is_protecting ∷ []

-- new cells were put at the cursor, the state is this one, and everything else stayed
pub record PutsOver (x : Screen) (fresh : List Cell) (s : State) (y : Screen) : Type 0 where
  pub page : (line column : ℕ) → place y.page line column ≡ overlaid_at_cursor fresh x line column
  pub rest : y ≡ record x { state = s; page = y.page }

-- a mark joined the cell at a place, and nothing else changed
pub record PutsMark (x : Screen) (p : Position) (mark : ℕ) (y : Screen) : Type 0 where
  pub page : (line column : ℕ)
      → place y.page line column ≡ with_mark p.line p.column mark x.page line column
  pub rest : y ≡ record x { page = y.page }

-- the final byte of DECSM and DECRM; of DECKPAM and DECKPNM
abbrev pub mode_final : Bool → ℕ
mode_final true = code "h"
mode_final false = code "l"

abbrev pub keypad_final : Bool → ℕ
keypad_final true = code "="
keypad_final false = code ">"

-- values of SGR that set a rendition from any other one: 0, the attributes that are on, and the
-- colours
abbrev pub value_if : Bool → ℕ → List ℕ
value_if b n = cond b (n ∷ []) []

-- the value of a colour, from the value of colour 0 on; none for the terminal's own, which 0 has
-- set
abbrev pub value_of_colour : ℕ → Colour → List ℕ
value_of_colour base colour =
    if colour_digit colour == 9 then [] else (base + colour_digit colour) ∷ []

abbrev pub colour_values : Rendition → List ℕ
colour_values r =
    value_of_colour foreground_base r.fore ++ value_of_colour background_base r.back

abbrev pub rendition_values : Rendition → List ℕ
rendition_values r =
    0 ∷ (value_if r.is_bold 1
    ++ (value_if r.is_underlined 4
    ++ (value_if r.is_blinking 5
    ++ (value_if r.is_reversed 7 ++ colour_values r))))
