-- The command that a line's first word names, or why it names none.
use Rattle.std.specs.Prelude.{ℕ, if◌then◌else◌, Option, Some, None, Result, Ok, Err}
use Rattle.acl.specs.declared.command_name.CommandName.{CommandName}
use Rattle.strings.specs.declared.text.Word.{Word}
use Rattle.command_lang.specs.declared.fault.FaultKind.TheVariants as faults
use Rattle.command_lang.specs.declared.fault.ParseFault.{ParseFault}
use Rattle.command_lang.specs.Names.{command_named}
use Rattle.command_lang.specs.Table.{at}

abbrev pub known : ℕ → Option CommandName → Result CommandName ParseFault
known place None = Err (at place faults.UnknownCommand)
known place (Some n) = Ok n

abbrev pub name_in : Word → Result CommandName ParseFault
name_in w =
    if w.is_closed then known w.place (command_named w.text) else Err (at w.place faults.BadQuote)
