-- Commands that a client gives by keys.
use Rattle.std.specs.Prelude.{ℕ, ◌≡◌, ◌++◌, Option, Some, Result}
use Rattle.command_lang.specs.declared.command.Command.{Command}
use Rattle.command_lang.specs.declared.fault.ParseFault.{ParseFault}
use Rattle.session_model.specs.Tables.{Tables, Client, client_at}
use Rattle.session_state.specs.declared.state.Caller.{Caller}
use Rattle.session_state.specs.declared.state.Step.{Step}
use Rattle.session_state.specs.declared.state.State.{State}
use Rattle.session_state.specs.Stands.{Stands}
use Rattle.session_model.specs.Sound.{AreFit}
use Rattle.session_state.specs.Doing.{HasDone}
use Rattle.session_input.specs.Given.{ordered_by}
use Rattle.session_input.specs.Typing.{caller_by}

-- the deed of a command that keys give was done, and its verdicts were noted
pub record Obeyed (t : Tables) (c : Client) (order : Option (Result Command ParseFault))
    (new : State) (before after : Step) : Type 0 where
  pub done : HasDone t (ordered_by t c order).deed new before.made after.made
  pub verdicts : after.verdicts.items ≡ before.verdicts.items ++ (ordered_by t c order).verdicts

-- So it was for all tables that the state stood for. The row of the client may be another one, with
-- the same serial, user and focus.
abbrev pub Obeys : Caller → ℕ → Option (Result Command ParseFault) → State → State → Step → Step → Type 0
Obeys k client order old new before after =
    (t : Tables) (c d : Client) → Stands t old → AreFit t → client_at t client ≡ Some d
    → c.serial ≡ client → k ≡ caller_by client c
    → Obeyed t c order new before after
