-- What a client is told.
use Rattle.std.specs.Prelude.{ℕ, ◌≡◌, Bool, true, false, List, Some}
use Rattle.session_model.specs.declared.refusal.Refusal.{Refusal}
use Rattle.session_model.specs.declared.refusal.Refusal.TheVariants.{NoMemory}
use Rattle.session_model.specs.declared.event.StatusMessage.{StatusMessage}
use Rattle.session_model.specs.Tables.{Tables, Client, client_at}
use Rattle.session_model.specs.Answering.{says}
use Rattle.session_state.specs.declared.state.StepOutput.{StepOutput}
use Rattle.session_state.specs.declared.state.State.{State}
use Rattle.session_state.specs.Stands.{Stands}
use Rattle.session_state.specs.Doing.{HasDone}

-- a client that is there was told a text, and has the message, for all tables that the state stood for
abbrev pub Says : ℕ → StatusMessage → List ℕ → State → State → StepOutput → StepOutput → Type 0
Says client message text old new before after =
    (t : Tables) (c : Client) → Stands t old → client_at t client ≡ Some c
    → HasDone t (says t client message text) new before after

-- whether memory was refused
abbrev pub wants_memory : Refusal → Bool
wants_memory NoMemory = true
wants_memory _ = false
