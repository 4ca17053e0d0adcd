-- The meaning of each control function: the rows of the screen table by their spelling, with their
-- arguments.
use Rattle.std.specs.Prelude.{ℕ, ◌+◌, ◌-◌, ◌==◌, max, Bool, true, false, if◌then◌else◌, List, [], ◌∷◌, ◌++◌, map}
use Rattle.std.specs.Prelude.{slice_index_or, Option, Some, None, option_to_list, option_map}
use Rattle.std.specs.List.{flat_map}
use Prim.Native.Char.{code}
use Rattle.charsets.specs.Entries.{entry_at, entry_or}
use Rattle.charsets.specs.declared.decoder.Coding.TheVariants.{Utf8, Ecma35}
use Rattle.charsets.specs.declared.decoder.Unit.TheVariants as units
use Rattle.charsets.specs.declared.shifts.CharacterSet.{CharacterSet}
use Rattle.charsets.specs.declared.shifts.CharacterSet.TheVariants.{Ascii, UnitedKingdom, SpecialGraphics, Supplemental}
use Rattle.charsets.specs.declared.shifts.Place.{Place}
use Rattle.charsets.specs.declared.shifts.Place.TheVariants.{G0, G1, G2, G3}
use Rattle.charsets.specs.declared.shifts.Shift.TheVariants.{Si, So, Ls2, Ls3, Ls1r, Ls2r, Ls3r, Ss2, Ss3}
use Rattle.control_parser.specs.declared.parser.Func.{Func}
use Rattle.control_parser.specs.declared.parser.Func.TheVariants as funcs
use Rattle.terminal_model.specs.declared.action.Part.{Part}
use Rattle.terminal_model.specs.declared.action.Part.TheVariants.{ToEnd, ToStart, All}
use Rattle.cells.specs.declared.rendition.Colour.{Colour}
use Rattle.cells.specs.declared.rendition.Colour.TheVariants.{Default, Black, Red, Green, Yellow, Blue}
use Rattle.cells.specs.declared.rendition.Colour.TheVariants.{Magenta, Cyan, White}
use Rattle.cells.specs.declared.rendition.Attribute.{Attribute}
use Rattle.cells.specs.declared.rendition.Attribute.TheVariants.{Plain, Bold, Underlined, Blinking, Reversed}
use Rattle.cells.specs.declared.rendition.Attribute.TheVariants.{Foreground, Background}
use Rattle.terminal_model.specs.declared.action.Mode.TheVariants as modes
use Rattle.terminal_model.specs.declared.action.Action.{Action}
use Rattle.terminal_model.specs.declared.action.Action.TheVariants.{Print, Backspace, Tab, LineFeed, CarriageReturn}
use Rattle.terminal_model.specs.declared.action.Action.TheVariants.{Shift, Designate, SetCoding, Index, NextLine}
use Rattle.terminal_model.specs.declared.action.Action.TheVariants.{ReverseIndex, SetTab, Save, Restore}
use Rattle.terminal_model.specs.declared.action.Action.TheVariants.{SetEightBitReports, SetApplicationKeypad, Reset}
use Rattle.terminal_model.specs.declared.action.Action.TheVariants.{Align, Up, Down, Right, Left, MoveTo, SetMargins}
use Rattle.terminal_model.specs.declared.action.Action.TheVariants.{ClearTab, ClearTabs, EraseInPage, EraseInLine}
use Rattle.terminal_model.specs.declared.action.Action.TheVariants.{EraseCells, EraseUnprotectedInPage}
use Rattle.terminal_model.specs.declared.action.Action.TheVariants.{EraseUnprotectedInLine, InsertCells, DeleteCells}
use Rattle.terminal_model.specs.declared.action.Action.TheVariants.{InsertLines, DeleteLines, Protect, Render, SetMode}
use Rattle.terminal_model.specs.declared.action.Action.TheVariants.{BlankPage, SoftReset, ReportStatus, ReportPlace}
use Rattle.terminal_model.specs.declared.action.Action.TheVariants.{ReportPrinter, ReportAttributes}
use Rattle.terminal_model.specs.declared.action.Action.TheVariants.{ReportSecondaryAttributes}

-- the first parameter; an absent one is 0
abbrev pub first : List ℕ → ℕ
first params = slice_index_or params 0 0

abbrev pub second : List ℕ → ℕ
second params = slice_index_or params 1 0

-- a parameter as a count: absent or 0 is 1 (VT220 manual, chapter 4)
abbrev pub count : List ℕ → ℕ
count params = max 1 (first params)

-- DECSTBM's second parameter: absent or 0 is the page's last line
abbrev pub last_line : ℕ → Option ℕ
last_line n = if n == 0 then None else Some (n - 1)

-- C0 controls (ECMA-48, 8.3; VT220 manual, chapter 2): BS, HT, LF, VT, FF, CR, SO, SI; NUL, ENQ,
-- BEL and the others are ignored
abbrev pub control_action : ℕ → Option Action
control_action c =
    entry_at
    ((0x08, Backspace) ∷ (0x09, Tab) ∷ (0x0A, LineFeed) ∷ (0x0B, LineFeed) ∷ (0x0C, LineFeed)
    ∷ (0x0D, CarriageReturn) ∷ (0x0E, Shift So) ∷ (0x0F, Shift Si) ∷ [])
    c

-- ESC and a final byte: DECSC, DECRC, DECKPAM, DECKPNM, IND, NEL, HTS, RI, SS2, SS3, RIS, LS2, LS3,
-- LS3R, LS2R, LS1R (ECMA-48, 8.3; VT220 manual, chapter 4)
abbrev pub escape_action : ℕ → Option Action
escape_action last =
    entry_at
    ((code "7", Save) ∷ (code "8", Restore) ∷ (code "=", SetApplicationKeypad true)
    ∷ (code ">", SetApplicationKeypad false) ∷ (code "D", Index) ∷ (code "E", NextLine)
    ∷ (code "H", SetTab) ∷ (code "M", ReverseIndex) ∷ (code "N", Shift Ss2)
    ∷ (code "O", Shift Ss3) ∷ (code "c", Reset) ∷ (code "n", Shift Ls2) ∷ (code "o", Shift Ls3)
    ∷ (code "|", Shift Ls3r) ∷ (code "}", Shift Ls2r) ∷ (code "~", Shift Ls1r) ∷ [])
    last

-- the place that a designation's intermediate names (ECMA-35: the sets of 94 characters)
abbrev pub designated_place : ℕ → Option Place
designated_place intermediate =
    entry_at ((code "(", G0) ∷ (code ")", G1) ∷ (code "*", G2) ∷ (code "+", G3) ∷ []) intermediate

-- the set that a designation's final byte names; the last one is this project's own
abbrev pub designated_set : ℕ → Option CharacterSet
designated_set last =
    entry_at
    ((code "B", Ascii) ∷ (code "A", UnitedKingdom) ∷ (code "0", SpecialGraphics)
    ∷ (code "<", Supplemental) ∷ [])
    last

abbrev pub designation : Option Place → Option CharacterSet → Option Action
designation None set = None
designation (Some place) None = None
designation (Some place) (Some set) = Some (Designate place set)

-- ESC, an intermediate and a final byte: S7C1T, S8C1T; DECALN; the coding systems; a designation
abbrev pub intermediate_action : ℕ → ℕ → Option Action
intermediate_action intermediate last =
    entry_or (designation (designated_place intermediate) (designated_set last))
    ((
      code " ",
      entry_at
          ((code "F", SetEightBitReports false) ∷ (code "G", SetEightBitReports true) ∷ []) last,
    )
    ∷ (code "#", entry_at ((code "8", Align) ∷ []) last)
    ∷ (
      code "%",
      entry_at ((code "G", SetCoding Utf8) ∷ (code "@", SetCoding Ecma35) ∷ []) last,
    )
    ∷ [])
    intermediate

-- the part that ED, EL, DECSED and DECSEL erase, by their parameter; other values are ignored
abbrev pub part_of : ℕ → Option Part
part_of n = entry_at ((0, ToEnd) ∷ (1, ToStart) ∷ (2, All) ∷ []) n

-- SGR (ECMA-48, 8.3.117). The digit of a colour: the last one of its values.
abbrev pub colour_digit : Colour → ℕ
colour_digit Black = 0
colour_digit Red = 1
colour_digit Green = 2
colour_digit Yellow = 3
colour_digit Blue = 4
colour_digit Magenta = 5
colour_digit Cyan = 6
colour_digit White = 7
colour_digit Default = 9

abbrev pub all_colours : List Colour
all_colours =
    Black ∷ Red ∷ Green ∷ Yellow ∷ Blue ∷ Magenta ∷ Cyan ∷ White ∷ Default ∷ []

-- the value of colour 0: 30 for the foreground, 40 for the background
abbrev pub foreground_base : ℕ
foreground_base = 30

abbrev pub background_base : ℕ
background_base = 40

abbrev pub colours_from : ℕ → (Colour → Attribute) → List (ℕ × Action)
colours_from base of_colour =
    map (λ (c : Colour). (base + colour_digit c, Render (of_colour c))) all_colours

-- a value that names a colour
abbrev pub colour_action : ℕ → Option Action
colour_action n =
    entry_at
    (colours_from foreground_base Foreground ++ colours_from background_base Background) n

-- a value of SGR: 0, attributes to set and to reset, colours; other values are ignored
abbrev pub rendered : ℕ → Option Action
rendered n =
    entry_or (colour_action n)
    ((0, Some (Render Plain))
    ∷ (1, Some (Render (Bold true))) ∷ (4, Some (Render (Underlined true)))
    ∷ (5, Some (Render (Blinking true))) ∷ (7, Some (Render (Reversed true)))
    ∷ (22, Some (Render (Bold false))) ∷ (24, Some (Render (Underlined false)))
    ∷ (25, Some (Render (Blinking false))) ∷ (27, Some (Render (Reversed false))) ∷ [])
    n

-- one value of SM or RM
abbrev pub mode_set : Bool → ℕ → Option Action
mode_set is_set n =
    entry_at
    ((4, SetMode modes.Insert is_set) ∷ (20, SetMode modes.NewLine is_set) ∷ []) n

-- one value of DECSM or DECRM
abbrev pub private_mode_set : Bool → ℕ → Option Action
private_mode_set is_set n =
    entry_at
    ((1, SetMode modes.Arrows is_set) ∷ (3, BlankPage) ∷ (5, SetMode modes.Inverted is_set)
    ∷ (6, SetMode modes.Origin is_set) ∷ (7, SetMode modes.Wrap is_set)
    ∷ (25, SetMode modes.Cursor is_set) ∷ [])
    n

-- each value in turn
abbrev pub each : (ℕ → Option Action) → List ℕ → List Action
each meaning values = flat_map (λ value. option_to_list (meaning value)) values

-- at most one action
abbrev pub alone : Option Action → List Action
alone = option_to_list

-- DECSCA's parameter: 1 protects what is printed later, 0 and 2 don't
abbrev pub protection : ℕ → Option Action
protection n = entry_at ((1, Protect true) ∷ (0, Protect false) ∷ (2, Protect false) ∷ []) n

-- TBC's parameter
abbrev pub tab_cleared : ℕ → Option Action
tab_cleared n = entry_at ((0, ClearTab) ∷ (3, ClearTabs) ∷ []) n

-- DSR's parameter
abbrev pub status_reported : ℕ → Option Action
status_reported n = entry_at ((5, ReportStatus) ∷ (6, ReportPlace) ∷ []) n

-- DA's parameter: only 0 asks for attributes
abbrev pub asked : Action → ℕ → List Action
asked report n = if n == 0 then report ∷ [] else []

-- CSI, parameters and a final byte: ICH, CUU, CUD, CUF, CUB, CUP, ED, EL, IL, DL, DCH, ECH, DA,
-- HVP, TBC, SM, RM, SGR, DSR, DECSTBM (ECMA-48, 8.3; VT220 manual, chapter 4)
unfoldable pub plain_sequence : List ℕ → ℕ → List Action
plain_sequence params last =
    entry_or []
    ((code "@", InsertCells (count params) ∷ [])
    ∷ (code "A", Up (count params) ∷ [])
    ∷ (code "B", Down (count params) ∷ [])
    ∷ (code "C", Right (count params) ∷ [])
    ∷ (code "D", Left (count params) ∷ [])
    ∷ (code "H", MoveTo (first params - 1) (second params - 1) ∷ [])
    ∷ (code "J", alone (option_map EraseInPage (part_of (first params))))
    ∷ (code "K", alone (option_map EraseInLine (part_of (first params))))
    ∷ (code "L", InsertLines (count params) ∷ [])
    ∷ (code "M", DeleteLines (count params) ∷ [])
    ∷ (code "P", DeleteCells (count params) ∷ [])
    ∷ (code "X", EraseCells (count params) ∷ [])
    ∷ (code "c", asked ReportAttributes (first params))
    ∷ (code "f", MoveTo (first params - 1) (second params - 1) ∷ [])
    ∷ (code "g", alone (tab_cleared (first params)))
    ∷ (code "h", each (mode_set true) params)
    ∷ (code "l", each (mode_set false) params)
    ∷ (code "m", each rendered params)
    ∷ (code "n", alone (status_reported (first params)))
    ∷ (code "r", SetMargins (first params - 1) (last_line (second params)) ∷ [])
    ∷ [])
    last

-- CSI ? , parameters and a final byte: DECSED, DECSEL, DECSM, DECRM, and the printer's DSR
unfoldable pub private_sequence : List ℕ → ℕ → List Action
private_sequence params last =
    entry_or []
    ((code "J", alone (option_map EraseUnprotectedInPage (part_of (first params))))
    ∷ (code "K", alone (option_map EraseUnprotectedInLine (part_of (first params))))
    ∷ (code "h", each (private_mode_set true) params)
    ∷ (code "l", each (private_mode_set false) params)
    ∷ (code "n", (if first params == 15 then ReportPrinter ∷ [] else []))
    ∷ [])
    last

-- CSI, an optional private marker, parameters and a final byte; CSI > c is the secondary DA
abbrev pub marked_sequence : Option ℕ → List ℕ → ℕ → List Action
marked_sequence None params last = plain_sequence params last
marked_sequence (Some mark) params last =
    entry_or []
    ((code "?", private_sequence params last)
    ∷ (
      code ">",
      entry_or [] ((code "c", asked ReportSecondaryAttributes (first params)) ∷ []) last,
    )
    ∷ [])
    mark

-- CSI, parameters, an intermediate and a final byte: DECSTR is CSI ! p, and DECSCA is CSI Ps " q
abbrev pub between_sequence : List ℕ → ℕ → ℕ → List Action
between_sequence params intermediate last =
    entry_or []
    ((code "!", entry_or [] ((code "p", SoftReset ∷ []) ∷ []) last)
    ∷ (code "\"", entry_or [] ((code "q", alone (protection (first params))) ∷ []) last)
    ∷ [])
    intermediate

abbrev pub sequence_actions : Option ℕ → List ℕ → List ℕ → ℕ → List Action
sequence_actions mark params [] last = marked_sequence mark params last
sequence_actions None params (intermediate ∷ []) last = between_sequence params intermediate last
sequence_actions (Some mark) params (intermediate ∷ []) last = []
sequence_actions mark params (intermediate ∷ another ∷ more) last = []

abbrev pub escape_actions : List ℕ → ℕ → List Action
escape_actions [] last = alone (escape_action last)
escape_actions (intermediate ∷ []) last = alone (intermediate_action intermediate last)
escape_actions (intermediate ∷ another ∷ more) last = []

-- The actions of a function: mostly one; for SGR, SM, RM, DECSM and DECRM one for each value that
-- is known, in turn; none if it is ignored.
abbrev pub actions_of : Func → List Action
actions_of (funcs.Print c) = Print (units.Code c) ∷ []
actions_of (funcs.High b) = Print (units.High b) ∷ []
actions_of (funcs.Control c) = alone (control_action c)
actions_of (funcs.Esc intermediates last) = escape_actions intermediates last
actions_of (funcs.Csi mark params intermediates last) =
    sequence_actions mark params intermediates last
