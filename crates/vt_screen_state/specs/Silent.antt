-- Actions without an answer.
use Rattle.std.specs.Prelude.{◌≡◌, []}
use Rattle.terminal_model.specs.declared.action.Action.{Action}
use Rattle.terminal_model.specs.declared.state.State.{State}
use Rattle.terminal_model.specs.Reports.{answer}

-- the action has no answer on any screen
abbrev pub IsSilent : Action → Type 0
IsSilent action = (state : State) → answer state action ≡ []
