-- Lines that users give, and the windows that they are for.
use Rattle.std.specs.Prelude.{ℕ, ◌≡◌, ◌⊎◌, List, Option, Result, Ok, Err}
use Rattle.std.specs.Option.{option_and_then}
use Rattle.command_lang.specs.declared.command.Command.{Command}
use Rattle.command_lang.specs.declared.fault.ParseFault.{ParseFault}
use Rattle.command_lang.specs.declared.fault.FaultKind.{FaultKind}
use Rattle.command_lang.specs.declared.fault.FaultKind.TheVariants as fault
use Rattle.session_model.specs.declared.refusal.Refusal.{Refusal}
use Rattle.session_model.specs.declared.refusal.Refusal.TheVariants.{NoMemory, Line}
use Rattle.session_model.specs.Tables.{Tables, window_at}
use Rattle.session_model.specs.Naming.{with_number}
use Rattle.session_model.specs.Lines.{read_line}
use Rattle.session_state.specs.declared.state.State.{State}
use Rattle.session_state.specs.Stands.{Stands}
use Rattle.session_model.specs.Sound.{AreFit}

-- the refusal for a line with this fault
abbrev pub refusal_by : ParseFault → FaultKind → Refusal
refusal_by f fault.NoMemory = NoMemory
refusal_by f kind = Line f

abbrev pub line_refusal : ParseFault → Refusal
line_refusal f = refusal_by f f.kind

-- the command that a line says, or its fault; memory may be refused
abbrev pub Parses : List ℕ → Result Command Refusal → Type 0
Parses line (Ok order) = read_line line ≡ Ok order
Parses line (Err r) =
    (r ≡ NoMemory) ⊎ ((f : ParseFault) × (read_line line ≡ Err f) × (r ≡ Line f))

-- a serial is that of the window with a number, for all tables that the state stands for
abbrev pub IsNumbered : State → Option ℕ → Option ℕ → Type 0
IsNumbered s number serial =
    (t : Tables) → Stands t s → AreFit t
    → option_and_then (window_at t) serial ≡ option_and_then (with_number t.windows) number
