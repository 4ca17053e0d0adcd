-- What a parser keeps of a list of units.
use Rattle.std.specs.Prelude.{◌≡◌, ℕ, not, nat_lt, nat_le, ◌==◌, if◌then◌else◌, List, [], ◌∷◌, ◌++◌}
use Rattle.std.specs.Prelude.{length, map, Option, Some, None}
use Rattle.charsets.specs.declared.decoder.Unit.{Unit}
use Rattle.charsets.specs.declared.decoder.Unit.TheVariants.{Code}
use Rattle.control_parser.specs.declared.parser.Func.{Func}
use Rattle.control_parser.specs.declared.state.SequenceText.{SequenceText}
use Rattle.control_parser.specs.declared.state.State.{State}
use Rattle.control_parser.specs.declared.state.State.TheVariants.{Ground, Escape, EscapeIgnored, Control}
use Rattle.control_parser.specs.declared.state.State.TheVariants.{ControlIgnored, String, Osc}
use Rattle.control_parser.specs.Text.{values, is_well_formed, mark_of, numbers_of, params_of, intermediates_of}
use Rattle.control_parser.specs.Grammar.{Rest, nothing, escape, control, string, osc, with_front, functions}

-- the parts of a control sequence's text as far as it was read; None if it is ignored
unfoldable pub parts : List ℕ → Option SequenceText
parts text = if is_well_formed text then Some (record {
  begun = not (length text == 0);
  mark = mark_of text;
  params = params_of text;
  over = nat_lt 16 (length (values (numbers_of text)));
  intermediates = intermediates_of text;
}) else None

abbrev pub kept_text : Option SequenceText → State
kept_text None = ControlIgnored
kept_text (Some t) = Control t

unfoldable pub kept : Rest → State
kept nothing = Ground
kept (escape intermediates) =
    if nat_le (length intermediates) 2 then Escape intermediates else EscapeIgnored
kept (control text) = kept_text (parts text)
kept string = String
kept osc = Osc

-- the parser has read these units
abbrev pub StandsFor : State → List Unit → Type 0
StandsFor parser units = parser ≡ kept (functions units).1

-- these functions are what it has given for these units, and it has read no others
pub record HasGiven (parser : State) (given : List Func) (units : List Unit) : Type 0 where
  pub stands : StandsFor parser units
  pub all : given ≡ (functions units).0

-- no sequence or string is incomplete
abbrev pub IsIdle : State → Type 0
IsIdle parser = parser ≡ Ground

-- units that leave this incomplete: the beginning of the sequence or string, without its controls
abbrev pub opening : Rest → List Unit
opening nothing = []
opening (escape intermediates) = Code 0x1B ∷ map (λ c. Code c) intermediates
opening (control text) = Code 0x1B ∷ Code 0x5B ∷ map (λ c. Code c) text
opening string = Code 0x1B ∷ Code 0x58 ∷ []
opening osc = Code 0x1B ∷ Code 0x5D ∷ []

-- the functions of units that come in pieces: each piece is read after what the pieces before it
-- left incomplete
abbrev pub functions_of_pieces : Rest → List (List Unit) → List Func × Rest
functions_of_pieces rest [] = ([], rest)
functions_of_pieces rest (piece ∷ pieces) =
    let here = functions (opening rest ++ piece) in
    with_front here.0 (functions_of_pieces here.1 pieces)
