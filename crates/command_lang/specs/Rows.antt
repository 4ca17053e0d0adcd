-- The table of commands: the rows of the code's own constant, at the indices of the commands'
-- names.
use Rattle.std.specs.Prelude.{ℕ, List, [], map, get_or, Option, None}
use Rattle.std.specs.Option.{option_map}
use Rattle.acl.specs.Same.{index_of_command}
use Rattle.acl.specs.declared.command_name.CommandName.{CommandName}
use Rattle.command_lang.specs.declared.needs.Needs.{Needs}
use Rattle.command_lang.specs.declared.needs.TheConstants.{NOTHING}
use Rattle.command_lang.specs.declared.rows.Entry.{Entry}
use Rattle.command_lang.specs.declared.rows.TheConstants.{ROWS}
use Rattle.command_lang.specs.declared.rows.Words.{Words}
use Rattle.command_lang.specs.declared.rows.Words.TheVariants.{Nothing}

-- a command's name, its alias, the words that it takes, and what it needs
pub record TableRow : Type 0 where
  pub name : List ℕ
  pub alias : Option (List ℕ)
  pub words : Words
  pub needs : Needs

abbrev pub rows : List TableRow
rows = map (λ r. record {
  name = r.0.now;
  alias = option_map (λ t. t.now) r.1;
  words = r.2;
  needs = r.3;
}) ROWS

-- the row of a command that has none; each command has one
abbrev pub no_row : TableRow
no_row = record { name = []; alias = None; words = Nothing; needs = NOTHING }

abbrev pub row : CommandName → TableRow
row n = get_or rows (index_of_command n) no_row

-- the words that a command takes
abbrev pub takes : CommandName → Words
takes n = (row n).words

-- the row of the code's table
abbrev pub shown : Entry → TableRow
shown r = record {
  name = r.name.now;
  alias = option_map (λ t. t.now) r.alias;
  words = r.words;
  needs = r.needs;
}
