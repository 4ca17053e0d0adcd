-- How a terminal reads bytes.
use Rattle.std.specs.Prelude.{◌≡◌, ℕ, List, [], ◌∷◌, ◌++◌}
use Rattle.charsets.specs.declared.decoder.Unit.{Unit}
use Rattle.charsets.specs.declared.decoder.Coding.{Coding}
use Rattle.charsets.specs.declared.decoder.Coding.TheVariants.{Utf8, Ecma35}
use Rattle.charsets.specs.Units.{units}
use Rattle.control_parser.specs.declared.parser.Func.{Func}
use Rattle.control_parser.specs.Grammar.{Rest, nothing, functions}
use Rattle.control_parser.specs.Kept.{opening}
use Rattle.terminal_model.specs.Screen.{Screen, IsSound}
use Rattle.terminal_model.specs.Table.{effect}
use Rattle.terminal_model.specs.Reports.{report}

-- A terminal: its screen, the bytes of an incomplete character, and the incomplete sequence or
-- string.
pub record Terminal : Type 0 where
  pub screen : Screen
  pub rest : List ℕ
  pub unended : Rest

-- a terminal between characters, sequences and strings
abbrev pub ready : Screen → Terminal
ready x = record { screen = x; rest = []; unended = nothing }

-- its screen is sound, its incomplete character is left by some bytes, and its incomplete sequence
-- or string by some units
pub record IsTerminal (t : Terminal) : Type 0 where
  pub sound : IsSound t.screen
  pub begun : units t.screen.state.coding t.rest ≡ ([], t.rest)
  pub opened : functions (opening t.unended) ≡ ([], t.unended)

-- a function that acted, and the screen on which it acted
pub record Act : Type 0 where
  pub before : Screen
  pub func : Func

-- the terminal after reading, its answers, and the functions that acted, in their order
pub record Read : Type 0 where
  pub terminal : Terminal
  pub reports : List ℕ
  pub acts : List Act

abbrev pub nothing_read : Terminal → Read
nothing_read t = record { terminal = t; reports = []; acts = [] }

-- one reading after another
abbrev pub joined : Read → Read → Read
joined r later =
    record {
      terminal = later.terminal;
      reports = r.reports ++ later.reports;
      acts = r.acts ++ later.acts;
    }

-- a function acts on the screen
unfoldable pub act : Terminal → Func → Read
act t f = record {
  terminal = record t { screen = effect t.screen f };
  reports = report t.screen f;
  acts = record { before = t.screen; func = f } ∷ [];
}

unfoldable pub act_all : Terminal → List Func → Read
act_all t [] = nothing_read t
act_all t (f ∷ later) = joined (act t f) (act_all (act t f).terminal later)

-- a unit is read: the functions that it completes act
unfoldable pub read_unit : Terminal → Unit → Read
read_unit t u =
    let given = functions (opening t.unended ++ u ∷ []) in
    act_all (record t { unended = given.1 }) given.0

unfoldable pub read_units : Terminal → List Unit → Read
read_units t [] = nothing_read t
read_units t (u ∷ later) = joined (read_unit t u) (read_units (read_unit t u).terminal later)

-- the incomplete character after a change from the first coding to the second: none, unless they
-- are equal
abbrev pub rest_in : List ℕ → Coding → Coding → List ℕ
rest_in [] before after = []
rest_in (b ∷ rest) Utf8 Utf8 = b ∷ rest
rest_in (b ∷ rest) Ecma35 Ecma35 = b ∷ rest
rest_in (b ∷ rest) before after = []

-- the incomplete character after reading, in the coding of the screen
abbrev pub in_coding : Coding → Read → Read
in_coding before r =
    record r {
      terminal = record r.terminal {
        rest = rest_in r.terminal.rest before r.terminal.screen.state.coding;
      };
    }

-- a byte is read in the coding of the screen: the units that it completes are read
unfoldable pub read_byte : Terminal → ℕ → Read
read_byte t b =
    let given = units t.screen.state.coding (t.rest ++ b ∷ []) in
    in_coding t.screen.state.coding (read_units (record t { rest = given.1 }) given.0)

-- bytes are read, one after another
unfoldable pub reads : Terminal → List ℕ → Read
reads t [] = nothing_read t
reads t (b ∷ later) = joined (read_byte t b) (reads (read_byte t b).terminal later)
