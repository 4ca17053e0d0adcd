-- The parser's step: one more unit read into what it keeps. The grammar doesn't need these
-- definitions, and no promise of a public call cites them.
use Rattle.std.specs.Prelude.{◌≡◌, ℕ, ◌-◌, Bool, true, false, not, ◌&&◌, ◌||◌, nat_lt, ◌==◌}
use Rattle.std.specs.Prelude.{if◌then◌else◌, List, [], ◌∷◌, ◌++◌, length, Option, Some, None}
use Rattle.charsets.specs.declared.decoder.Unit.{Unit}
use Rattle.control_parser.specs.declared.parser.Func.{Func}
use Rattle.control_parser.specs.declared.parser.Func.TheVariants.{Print, Control, Esc, Csi}
use Rattle.control_parser.specs.declared.state.SequenceText.{SequenceText}
use Rattle.control_parser.specs.declared.state.State.{State}
use Rattle.control_parser.specs.declared.state.State.TheVariants as state
use Rattle.control_parser.specs.Text.{is_intermediate, is_digit, is_mark, with_last, digit_added}
use Rattle.control_parser.specs.Grammar.{code, is_control, is_c1, is_sequence_text, is_string_opener, alone}

abbrev pub no_text : SequenceText
no_text = record { begun = false; mark = None; params = 0 ∷ []; over = false; intermediates = [] }

-- one more intermediate, of at most two
abbrev pub with_intermediate : SequenceText → ℕ → Option SequenceText
with_intermediate t c =
    if length t.intermediates == 2 then None
    else Some (record t { begun = true; intermediates = t.intermediates ++ c ∷ [] })

-- one more digit of the last parameter
abbrev pub with_digit : SequenceText → ℕ → SequenceText
with_digit t d =
    record t { begun = true; params = if t.over then t.params else digit_added t.params d }

-- one more parameter, of at most sixteen
abbrev pub with_parameter : SequenceText → SequenceText
with_parameter t =
    record t {
      begun = true;
      params = if nat_lt (length t.params) 16 then t.params ++ 0 ∷ [] else t.params;
      over = if nat_lt (length t.params) 16 then t.over else true;
    }

abbrev pub text_grown : SequenceText → ℕ → Option SequenceText
text_grown t c =
    if is_intermediate c then with_intermediate t c
    else (if not (length t.intermediates == 0) then None
    else (if is_digit c then Some (with_digit t (c - 0x30))
    else (if c == 0x3B then Some (with_parameter t)
    else (if is_mark c && not t.begun then Some (record t { begun = true; mark = Some c })
    else None))))

-- the text whose last parameter has this value
abbrev pub valued : SequenceText → ℕ → SequenceText
valued t value = record t { params = with_last t.params value }

-- a digit counts for the last parameter
pub record TakesDigits (t : SequenceText) : Type 0 where
  pub few : t.over ≡ false
  pub inside : t.intermediates ≡ []

abbrev pub first_func : List Func → Option Func
first_func [] = None
first_func (f ∷ fs) = Some f

abbrev pub alone_of : Unit → Option Func
alone_of u = if is_c1 (code u) then None else first_func (alone u)

abbrev pub begun_step : ℕ → Option Func × State
begun_step f =
    if f == 0x5B then (None, state.Control no_text)
    else (if f == 0x5D then (None, state.Osc)
    else (if is_string_opener f then (None, state.String)
    else (Some (Esc [] f), state.Ground)))

abbrev pub broken_step : Unit → Bool → Option Func × State
broken_step u inside =
    if code u == 0x1A && inside then (Some (Print 0xFFFD), state.Ground)
    else (if code u == 0x1B then (None, state.Escape [])
    else (if is_c1 (code u) then begun_step (code u - 0x40)
    else (alone_of u, state.Ground)))

-- a unit inside a sequence: a control is executed, DEL is dropped
abbrev pub inside_step : State → Unit → Option Func × State → Option Func × State
inside_step here u otherwise =
    if is_control (code u) then (Some (Control (code u)), here)
    else (if code u == 0x7F then (None, here) else otherwise)

abbrev pub breaks_string : ℕ → Bool
breaks_string c = c == 0x18 || (c == 0x1A || (c == 0x1B || is_c1 c))

abbrev pub grown_step : Option SequenceText → Option Func × State
grown_step None = (None, state.ControlIgnored)
grown_step (Some t) = (None, state.Control t)

abbrev pub is_final_from : ℕ → ℕ → Bool
is_final_from low c = nat_lt low c && nat_lt c 0x7F

-- a unit inside an escape sequence or a control sequence, other than controls and DEL
abbrev pub escape_step : List ℕ → Unit → Option Func × State
escape_step is u =
    if is_intermediate (code u) then
    (if length is == 2 then (None, state.EscapeIgnored)
    else (None, state.Escape (is ++ code u ∷ [])))
    else (if is_final_from 0x2F (code u) then
    (if length is == 0 then begun_step (code u) else (Some (Esc is (code u)), state.Ground))
    else broken_step u true)

abbrev pub control_step : SequenceText → Unit → Option Func × State
control_step t u =
    if is_sequence_text (code u) then grown_step (text_grown t (code u))
    else (if is_final_from 0x3F (code u) then
    (Some (Csi t.mark t.params t.intermediates (code u)), state.Ground)
    else broken_step u true)

abbrev pub step_of : State → Unit → Option Func × State
step_of state.Ground u = broken_step u false
step_of state.String u = if breaks_string (code u) then broken_step u true else (None, state.String)
step_of state.Osc u =
    if code u == 7 then (None, state.Ground)
    else (if breaks_string (code u) then broken_step u true else (None, state.Osc))
step_of (state.Escape is) u = inside_step (state.Escape is) u (escape_step is u)
step_of state.EscapeIgnored u = inside_step state.EscapeIgnored u
    (if is_intermediate (code u) then (None, state.EscapeIgnored)
    else (if is_final_from 0x2F (code u) then (None, state.Ground)
    else broken_step u true))
step_of (state.Control t) u = inside_step (state.Control t) u (control_step t u)
step_of state.ControlIgnored u = inside_step state.ControlIgnored u
    (if is_sequence_text (code u) then (None, state.ControlIgnored)
    else (if is_final_from 0x3F (code u) then (None, state.Ground)
    else broken_step u true))
