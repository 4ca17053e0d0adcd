-- The faults of a line's words.
use Rattle.std.specs.Prelude.{ℕ, if◌then◌else◌, List, [], ◌∷◌, Option, Some, None}
use Rattle.acl.specs.declared.command_name.CommandName.{CommandName}
use Rattle.strings.specs.declared.text.Word.{Word}
use Rattle.command_lang.specs.declared.fault.FaultKind.TheVariants as faults
use Rattle.command_lang.specs.declared.fault.ParseFault.{ParseFault}
use Rattle.command_lang.specs.Names.{command_named}
use Rattle.command_lang.specs.Rows.{takes}
use Rattle.command_lang.specs.Table.{at, words_faults}

abbrev pub named_faults : Option CommandName → ℕ → ℕ → List Word → List ParseFault
named_faults None place end ws = at place faults.UnknownCommand ∷ []
named_faults (Some n) place end ws = words_faults (takes n) 0 end ws

-- the faults of the words of a line of that length, by rising place
abbrev pub line_faults : ℕ → List Word → List ParseFault
line_faults end [] = at end faults.MissingWord ∷ []
line_faults end (w ∷ ws) =
    if w.is_closed then named_faults (command_named w.text) w.place end ws
    else at w.place faults.BadQuote ∷ []

-- the fault that memory was refused; its place is 0
abbrev pub no_memory : ParseFault
no_memory = at 0 faults.NoMemory
