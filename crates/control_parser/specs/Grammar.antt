-- The control functions of a list of units: controls, escape sequences, control sequences and
-- control strings (ECMA-48, 5 and 8; ECMA-35, 13; VT220 Programmer Reference Manual, chapter 2).
-- The list is cut from the left into pieces, each by the longest front that goes on with it, and
-- the text of a sequence is read as a whole.
use Rattle.std.specs.Prelude.{ℕ, zero, suc, ◌+◌, ◌-◌, Bool, not, ◌&&◌, ◌||◌, nat_lt, nat_le, ◌==◌}
use Rattle.std.specs.Prelude.{if◌then◌else◌, List, [], ◌∷◌, ◌++◌, length}
use Rattle.charsets.specs.declared.decoder.Unit.{Unit}
use Rattle.charsets.specs.declared.decoder.Unit.TheVariants as units
use Rattle.control_parser.specs.declared.parser.Func.{Func}
use Rattle.control_parser.specs.declared.parser.Func.TheVariants.{Print, High, Control, Esc, Csi}
use Rattle.control_parser.specs.Text.{is_intermediate, while, is_well_formed, mark_of, params_of, intermediates_of}

-- the code of a unit: every byte of ECMA-35 from A0 on counts as A0
abbrev pub code : Unit → ℕ
code (units.Code c) = c
code (units.High b) = 0xA0

abbrev pub ESC : ℕ
ESC = 0x1B

abbrev pub CAN : ℕ
CAN = 0x18

abbrev pub SUB : ℕ
SUB = 0x1A

-- a C0 control that is executed anywhere but in a string (ECMA-48, 5.2; VT220 manual, chapter 2)
abbrev pub is_control : ℕ → Bool
is_control c = nat_lt c 0x20 && not (c == ESC) && not (c == CAN) && not (c == SUB)

-- a C1 control, which is the function ESC and its code less 40 (ECMA-48, 5.3)
abbrev pub is_c1 : ℕ → Bool
is_c1 c = nat_lt 0x7F c && nat_lt c 0xA0

abbrev pub is_graphic : ℕ → Bool
is_graphic c = (nat_lt 0x1F c && nat_lt c 0x7F) || nat_lt 0x9F c

-- the units inside an escape sequence, a control sequence, a string, an OSC string: any other unit
-- ends it
abbrev pub goes_on_beside : (ℕ → Bool) → Unit → Bool
goes_on_beside is_text u = is_control (code u) || (code u == 0x7F || is_text (code u))

abbrev pub is_sequence_text : ℕ → Bool
is_sequence_text c = nat_lt 0x1F c && nat_lt c 0x40

abbrev pub in_escape : Unit → Bool
in_escape = goes_on_beside is_intermediate

abbrev pub in_control : Unit → Bool
in_control = goes_on_beside is_sequence_text

abbrev pub in_string : Unit → Bool
in_string u = not (code u == ESC || (code u == CAN || (code u == SUB || is_c1 (code u))))

abbrev pub in_osc : Unit → Bool
in_osc u = in_string u && not (code u == 7)

-- the controls among some units, which are executed at once, and the text without them
unfoldable pub controls : List Unit → List Func
controls [] = []
controls (u ∷ us) = if is_control (code u) then Control (code u) ∷ controls us else controls us

unfoldable pub text : List Unit → List ℕ
text [] = []
text (u ∷ us) = if is_sequence_text (code u) then code u ∷ text us else text us

-- the incomplete sequence or string at the end of a list, with its text up to there, without
-- controls
pub data Rest : Type 0 where
  nothing : Rest
  escape : List ℕ → Rest
  control : List ℕ → Rest
  string : Rest
  osc : Rest

-- A piece of the units: the functions that it gives, and its number of units without the first one;
-- or it is incomplete.
pub data Piece : Type 0 where
  ends : List Func → ℕ → Piece
  unended : List Func → Rest → Piece

-- the piece with functions before it, and with more units
abbrev pub behind : List Func → ℕ → Piece → Piece
behind front more (ends gives n) = ends (front ++ gives) (more + n)
behind front more (unended gives rest) = unended (front ++ gives) rest

-- The unit f breaks off a sequence or string that has n units without its first one. CAN and SUB
-- belong to it; any other unit is read anew.
abbrev pub broken : ℕ → ℕ → Piece
broken n f =
    if f == SUB then ends (Print 0xFFFD ∷ []) (n + 1)
    else (if f == CAN then ends [] (n + 1) else ends [] n)

-- an escape sequence, from its intermediates and its final byte (ECMA-35, 13); with more than two
-- intermediates it is ignored
abbrev pub escape_of : List ℕ → ℕ → List Func
escape_of intermediates last =
    if nat_le (length intermediates) 2 then Esc intermediates last ∷ [] else []

-- a control sequence, from its text and its final byte (ECMA-48, 5.4)
abbrev pub control_of : List ℕ → ℕ → List Func
control_of text last =
    if is_well_formed text
    then Csi (mark_of text) (params_of text) (intermediates_of text) last ∷ []
    else []

-- The control sequence, and then the string, that goes on with these units after its introducer.
abbrev pub control_end : List ℕ → ℕ → List Unit → Piece
control_end text n [] = unended [] (control text)
control_end text n (f ∷ after) =
    if nat_lt 0x3F (code f) && nat_lt (code f) 0x7F then ends (control_of text (code f)) (n + 1)
    else broken n (code f)

abbrev pub control_sequence : List Unit → Piece
control_sequence us =
    let inside = (while in_control us).0 in
    behind (controls inside) 0 (control_end (text inside) (length inside) (while in_control us).1)

abbrev pub string_end : Rest → ℕ → List Unit → Piece
string_end rest n [] = unended [] rest
string_end rest n (f ∷ after) = if code f == 7 then ends [] (n + 1) else broken n (code f)

abbrev pub string_of : Rest → (Unit → Bool) → List Unit → Piece
string_of rest inside us = string_end rest (length (while inside us).0) (while inside us).1

-- DCS, SOS, PM, APC (ECMA-48, 5.6), and ESC k
abbrev pub is_string_opener : ℕ → Bool
is_string_opener f = f == 0x50 || (f == 0x58 || (f == 0x5E || (f == 0x5F || f == 0x6B)))

-- what ESC and f begin, or the C1 control f + 40, before these units
unfoldable pub begun_by : ℕ → List Unit → Piece
begun_by f us =
    if f == 0x5B then control_sequence us
    else (if f == 0x5D then string_of osc in_osc us
    else (if is_string_opener f then string_of string in_string us
    else ends (escape_of [] f) 0))

-- The escape sequence that goes on with these units after its ESC.
abbrev pub escape_end : List ℕ → ℕ → List Unit → Piece
escape_end intermediates n [] = unended [] (escape intermediates)
escape_end intermediates n (f ∷ after) =
    if nat_lt 0x2F (code f) && nat_lt (code f) 0x7F then
    (if length intermediates == 0 then behind [] (n + 1) (begun_by (code f) after)
    else ends (escape_of intermediates (code f)) (n + 1))
    else broken n (code f)

abbrev pub escape_sequence : List Unit → Piece
escape_sequence us =
    let inside = (while in_escape us).0 in
    behind (controls inside) 0 (escape_end (text inside) (length inside) (while in_escape us).1)

-- the function of a unit by itself: DEL is dropped, and CAN and SUB change nothing
abbrev pub alone : Unit → List Func
alone (units.High b) = High b ∷ []
alone (units.Code c) =
    if is_control c then Control c ∷ [] else (if is_graphic c then Print c ∷ [] else [])

-- the piece that begins with the unit u
unfoldable pub piece : Unit → List Unit → Piece
piece u us =
    if code u == ESC then escape_sequence us
    else (if is_c1 (code u) then begun_by (code u - 0x40) us
    else ends (alone u) 0)

abbrev pub with_front : List Func → List Func × Rest → List Func × Rest
with_front front later = (front ++ later.0, later.1)

-- the functions of the units after the first `skip`, which belong to an earlier piece, and what is
-- incomplete at the end
unfoldable pub functions_behind : ℕ → List Unit → List Func × Rest
functions_behind skip [] = ([], nothing)
functions_behind (suc skip) (u ∷ us) = functions_behind skip us
functions_behind zero (u ∷ us) =
    elim (piece u us) [
      | ends gives more ↦ with_front gives (functions_behind more us)
      | unended gives rest ↦ (gives, rest)
    ]

abbrev pub functions : List Unit → List Func × Rest
functions us = functions_behind 0 us
