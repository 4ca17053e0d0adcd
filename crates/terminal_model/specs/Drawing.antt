-- What a frame may hold, and what a terminal is after it has read one.
use Rattle.std.specs.Prelude.{◌≡◌, ℕ, zero, suc, ◌+◌, ◌-◌, ◌<◌, ◌⊎◌, Bool, true, false}
use Rattle.std.specs.Prelude.{if◌then◌else◌, ◌==◌, ◌&&◌, ◌||◌, not, nat_lt, nat_le, max, List, []}
use Rattle.std.specs.Prelude.{◌∷◌, ◌++◌, codes, length, Option, Some, None, is_some, MatchOption}
use Prim.Native.Char.{code}
use Rattle.std.specs.List.{AllByRecursion, flat_map, list_all}
use Rattle.control_parser.specs.Spelling.{spelling}
use Rattle.charsets.specs.Entries.{entry_at, entry_or}
use Rattle.charsets.specs.declared.decoder.Unit.{Unit}
use Rattle.charsets.specs.declared.decoder.Unit.TheVariants as units
use Rattle.charsets.specs.Shifts.{mapped}
use Rattle.cells.specs.declared.cell.Shape.{Shape}
use Rattle.cells.specs.declared.cell.Shape.TheVariants.{Narrow, Left, Right}
use Rattle.cells.specs.declared.marks.Marks.{Marks}
use Rattle.cells.specs.declared.marks.Marks.TheVariants.{Bare, One, Two}
use Rattle.cells.specs.declared.cell.Cell.{Cell}
use Rattle.cells.specs.Line.{cell_at}
use Rattle.cells.specs.Page.{line_at}
use Rattle.control_parser.specs.declared.parser.Func.{Func}
use Rattle.control_parser.specs.declared.parser.Func.TheVariants.{Print, High, Csi}
use Rattle.terminal_model.specs.declared.state.Position.{Position}
use Rattle.terminal_model.specs.declared.state.State.{State}
use Rattle.terminal_model.specs.Screen.{Page, Screen, starting_modes, starting_state, starting_tabs, blank_page}
use Rattle.terminal_model.specs.Functions.{actions_of, rendered, mode_set, private_mode_set, first, second, last_line}
use Rattle.terminal_model.specs.Motion.{bottom_of}
use Rattle.terminal_model.specs.Printing.{columns_of}
use Rattle.terminal_model.specs.Table.{effect}
use Rattle.terminal_model.specs.Reading.{Terminal, ready, Act}
use Rattle.terminal_model.specs.Shows.{View, seen_at, Shows, IsOfSize}

-- the beginning of a frame if nothing is known of the terminal: CAN, RIS, ESC % G, CSI ? 7 l
abbrev pub frame_bytes : List ℕ
frame_bytes =
    0x18 ∷ ((0x1B ∷ codes "c") ++ ((0x1B ∷ codes "%G") ++ (0x1B ∷ codes "[?7l")))

-- a screen after these bytes: the starting values in UTF-8, but with ?7 reset, and a blank page;
-- the scrollback stays
abbrev pub frame_start : Screen → Screen
frame_start x =
    record x {
      state = record (starting_state x.state.rows x.state.columns) {
        modes = record starting_modes { wraps = false };
      };
      tabs = starting_tabs x.state.columns;
      saved = None;
      page = blank_page x.state.rows x.state.columns;
    }

-- the greatest number of parameters, for sequences other than SGR, SM, RM, DECSM and DECRM: two for
-- CUP, HVP and DECSTBM, one for the others
abbrev pub most_params : ℕ → ℕ
most_params last = entry_or 1 ((code "H", 2) ∷ (code "f", 2) ∷ (code "r", 2) ∷ []) last

-- DECSTR, CSI ! p, has no parameter; an absent one is read as 0
abbrev pub has_no_params : List ℕ → ℕ → Bool
has_no_params [] last = false
has_no_params (intermediate ∷ more) last = intermediate == code "!" && last == code "p"

abbrev pub is_absent : ℕ → Bool
is_absent n = n == 0

-- which values of DECSM and DECRM are known, by the final byte
abbrev pub private_meaning : ℕ → Option (ℕ → Bool)
private_meaning last =
    entry_at
    ((code "h", λ n. is_some (private_mode_set true n))
    ∷ (code "l", λ n. is_some (private_mode_set false n)) ∷ [])
    last

-- which values of DECSM, DECRM, SGR, SM and RM are known
abbrev pub meaning_of : Option ℕ → List ℕ → ℕ → Option (ℕ → Bool)
meaning_of None [] last =
    entry_at
    ((code "m", λ n. is_some (rendered n))
    ∷ (code "h", λ n. is_some (mode_set true n))
    ∷ (code "l", λ n. is_some (mode_set false n)) ∷ [])
    last
meaning_of (Some mark) [] last =
    if mark == code "?" then private_meaning last else None
meaning_of mark (x ∷ xs) last = None

-- every value is known, or there are no more values than the row has
abbrev pub values_named : Option (ℕ → Bool) → List ℕ → ℕ → Bool
values_named (Some is_named) params last = list_all is_named params
values_named None params last = nat_le (length params) (most_params last)

abbrev pub are_values_named : Func → Bool
are_values_named (Csi mark params intermediates last) =
    values_named (meaning_of mark intermediates last) params last
    && (not (has_no_params intermediates last) || list_all is_absent params)
are_values_named f = true

-- DECSTBM isn't ignored on a page of this number of lines: its margins have two lines or more.
abbrev pub are_margins_in_order : ℕ → Func → Bool
are_margins_in_order rows (Csi None params [] last) =
    not (last == code "r") || nat_lt (first params - 1) (bottom_of rows (last_line (second params)))
are_margins_in_order rows f = true

-- a function of the screen table whose values are all known, and that isn't ignored on a page of
-- this number of lines
pub record IsListed (rows : ℕ) (f : Func) : Type 0 where
  pub acts : 0 < length (actions_of f)
  pub named : are_values_named f ≡ true
  pub in_order : are_margins_in_order rows f ≡ true

-- the unit that a function prints
abbrev pub unit_of : Func → Option Unit
unit_of (Print c) = Some (units.Code c)
unit_of (High b) = Some (units.High b)
unit_of f = None

-- the character is one of the marks
abbrev pub HasMark : Marks → ℕ → Type 0
HasMark Bare c = ⊥
HasMark (One a) c = a ≡ c
HasMark (Two a b) c = (a ≡ c) ⊎ (b ≡ c)

-- the cell has this character, as this part of it
pub record HasPart (shape : Shape) (c : ℕ) (cell : Cell) : Type 0 where
  pub shape_is : cell.shape ≡ shape
  pub character_is : cell.character ≡ c

abbrev pub has_room : Marks → Bool
has_room (Two a b) = false
has_room marks = true

abbrev pub cell_of : Page → Position → Cell
cell_of page p = cell_at (line_at page p.line) p.column

-- A character of a width stands at a place: one of width 0 as a mark on its cell, one of width 1 in
-- it, and one of width 2 with its left half in it and its right half beside it.
abbrev pub StandsAt : ℕ → Page → Position → ℕ → Type 0
StandsAt zero page p c = HasMark (cell_of page p).marks c
StandsAt (suc zero) page p c = HasPart Narrow c (cell_of page p)
StandsAt (suc (suc more)) page p c =
    HasPart Left c (cell_of page p)
    × HasPart Right c (cell_of page (record p { column = p.column + 1 }))

-- the place of the cell that a mark joins
abbrev pub mark_place : Page → Option Position → Option Position
mark_place page None = None
mark_place page (Some p) = if has_room (cell_of page p).marks then Some p else None

-- the first place that a printed character takes; afterwards marks join the cell there
abbrev pub place_by : ℕ → Act → Option Position
place_by zero a = mark_place a.before.page a.before.state.joining
place_by (suc more) a = (effect a.before a.func).state.joining

-- an act prints this character at this place
abbrev pub Prints : Act → ℕ → Position → Type 0
Prints a c p = MatchOption (unit_of a.func) ⊥ (λ u.
    (mapped a.before.state.shifts u ≡ Some c) × (place_by (columns_of c) a ≡ Some p))

-- DISCREET: the act is of a listed function, and if it prints a character, the page has this
-- character at its place.
pub record PrintsOf (page : Page) (a : Act) : Type 0 where
  pub character : ℕ
  pub place : Position
  pub prints : Prints a character place
  pub stands : StandsAt (columns_of character) page place character

abbrev pub IsDiscreet : Page → Act → Type 0
IsDiscreet page a =
    MatchOption (unit_of a.func) (IsListed a.before.state.rows a.func) (λ u. PrintsOf page a)

-- SPARE: each printed character takes at least one place at which the old page differs.
abbrev pub Differs : Page → Page → ℕ → ℕ → Type 0
Differs old page line column = seen_at old line column ≡ seen_at page line column → ⊥

pub record PrintsNew (old page : Page) (a : Act) : Type 0 where
  pub character : ℕ
  pub place : Position
  pub prints : Prints a character place
  pub further : ℕ
  pub taken : further < max 1 (columns_of character)
  pub differs : Differs old page place.line (place.column + further)

abbrev pub IsSpare : Page → Page → Act → Type 0
IsSpare old page a = MatchOption (unit_of a.func) (Prim.Unit {0}) (λ u. PrintsNew old page a)

-- the bytes are the spellings of the functions that acted and nothing else: there is no string, and
-- no byte that does nothing
abbrev pub AreSpelled : List ℕ → List Act → Type 0
AreSpelled bytes acts = bytes ≡ flat_map (λ a. spelling a.func) acts

-- all acts are discreet and spare
pub record Draws (old page : Page) (acts : List Act) : Type 0 where
  pub discreet : AllByRecursion (IsDiscreet page) acts
  pub spare : AllByRecursion (IsSpare old page) acts

-- AGREEMENT. The state that a frame leaves: the starting values in UTF-8, but with ?7 reset; ?1,
-- the keypad, ?25, the cursor, the rendition and the cell that marks join may be any.
abbrev pub drawn_state : State → State
drawn_state s = record (starting_state s.rows s.columns) {
  line = s.line;
  column = s.column;
  rendition = s.rendition;
  joining = s.joining;
  modes = record starting_modes {
    wraps = false;
    has_application_arrows = s.modes.has_application_arrows;
    shows_cursor = s.modes.shows_cursor;
    has_application_keypad = s.modes.has_application_keypad;
  };
}

-- the terminal shows the view, has the state that a frame leaves, and has no incomplete character,
-- sequence or string
pub record IsDrawn (v : View) (t : Terminal) : Type 0 where
  pub shows : Shows v t.screen
  pub state_is : t.screen.state ≡ drawn_state t.screen.state
  pub tabs_are : t.screen.tabs ≡ starting_tabs t.screen.state.columns
  pub none_saved : t.screen.saved ≡ None
  pub ready_is : t ≡ ready t.screen

-- a shadow agrees with a terminal: a shadow that knows nothing agrees with each terminal of its
-- size, one that knows a view with each that has it drawn
abbrev pub Agrees : ℕ → ℕ → Option View → Terminal → Type 0
Agrees rows columns None t = IsOfSize rows columns t
Agrees rows columns (Some v) t = IsOfSize rows columns t × IsDrawn v t
