-- The command that keys give.
use Rattle.std.specs.Prelude.{ℕ, Bool, true, false, List, [], ◌∷◌, Option, Some, None, Result, Ok}
use Rattle.command_lang.specs.declared.fault.FaultKind.{FaultKind}
use Rattle.command_lang.specs.declared.fault.FaultKind.TheVariants.{NoMemory}
use Rattle.command_lang.specs.declared.command.Command.{Command}
use Rattle.command_lang.specs.declared.fault.ParseFault.{ParseFault}
use Rattle.keys.specs.Grammar.{Item, bound, line}
use Rattle.session_model.specs.Lines.{read_line}
use Rattle.session_model.specs.Tables.{Tables, Client}
use Rattle.session_model.specs.Deeds.{changing}
use Rattle.session_model.specs.Answering.{Ordered, by_line}

-- the command of a line of the prompt, or its fault; an empty line gives none
abbrev pub given_line : List ℕ → Option (Result Command ParseFault)
given_line [] = None
given_line (b ∷ bytes) = Some (read_line (b ∷ bytes))

abbrev pub given : Option Item → Option (Result Command ParseFault)
given (Some (bound order)) = Some (Ok order)
given (Some (line bytes)) = given_line bytes
given _ = None

-- the deed of a command that keys give
abbrev pub ordered_by : Tables → Client → Option (Result Command ParseFault) → Ordered
ordered_by t c None = record { verdicts = []; deed = changing t }
ordered_by t c (Some order) = by_line t c order

-- whether memory was refused
abbrev pub is_kind_want : FaultKind → Bool
is_kind_want NoMemory = true
is_kind_want _ = false

abbrev pub is_want : ParseFault → Bool
is_want fault = is_kind_want fault.kind
