-- What a command writes to its window.
use Rattle.std.specs.Prelude.{Bool, true, false}
use Rattle.command_lang.specs.declared.command.Command.{Command}
use Rattle.command_lang.specs.declared.command.Command.TheVariants as command
use Rattle.terminal_model.specs.Writing as terminal
use Rattle.terminal_model.specs.Writing.{Writing}
use Rattle.session_model.specs.Commands.{coding_of}

-- whether it writes to its window, and does nothing else
abbrev pub writes : Command → Bool
writes command.Clear = true
writes command.Reset = true
writes (command.Encoding coding) = true
writes _ = false

abbrev pub writing_of : Command → Writing
writing_of command.Reset = terminal.Reset
writing_of (command.Encoding coding) = terminal.Encoding (coding_of coding)
writing_of _ = terminal.Clear
