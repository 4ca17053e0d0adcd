-- Reading all bytes at once: the functions of all units of the bytes.
use Rattle.std.specs.Prelude.{◌≡◌, ℕ, List, ◌++◌, map}
use Rattle.std.specs.List.{AllByRecursion}
use Rattle.charsets.specs.Units.{units}
use Rattle.control_parser.specs.declared.parser.Func.{Func}
use Rattle.control_parser.specs.Grammar.{Rest, functions}
use Rattle.control_parser.specs.Kept.{opening}
use Rattle.terminal_model.specs.Table.{effect}
use Rattle.terminal_model.specs.Reading.{Terminal, Act, reads}

-- The functions of the units of some bytes, after a terminal's incomplete character, sequence or
-- string, and what they leave incomplete.
abbrev pub functions_of_bytes : Terminal → List ℕ → List Func × Rest
functions_of_bytes t bytes =
    functions (opening t.unended ++ (units t.screen.state.coding (t.rest ++ bytes)).0)

-- the functions that acted
abbrev pub acted_functions : List Act → List Func
acted_functions acts = map (λ a. a.func) acts

-- the function doesn't change the coding
abbrev pub KeepsCoding : Act → Type 0
KeepsCoding a = (effect a.before a.func).state.coding ≡ a.before.state.coding

-- no function that acts while these bytes are read changes the coding
abbrev pub KeepsCodingIn : Terminal → List ℕ → Type 0
KeepsCodingIn t bytes = AllByRecursion KeepsCoding (reads t bytes).acts

-- The bytes were read as if at once: the functions that acted are theirs, and what is incomplete is
-- what they leave.
pub record IsWhole (t : Terminal) (bytes : List ℕ) : Type 0 where
  pub functions_are : acted_functions (reads t bytes).acts ≡ (functions_of_bytes t bytes).0
  pub unended_is : (reads t bytes).terminal.unended ≡ (functions_of_bytes t bytes).1
  pub rest_is : (reads t bytes).terminal.rest ≡ (units t.screen.state.coding (t.rest ++ bytes)).1
  pub coding_is : (reads t bytes).terminal.screen.state.coding ≡ t.screen.state.coding
