-- The answer of a command or event by which clients only go or windows are only closed.
use Rattle.std.specs.Prelude.{ℕ, ◌==◌, None, Result, Ok, Err}
use Rattle.session_model.specs.declared.event.Reason.TheVariants as reason
use Rattle.session_model.specs.declared.refusal.Refusal.{Refusal}
use Rattle.session_model.specs.declared.refusal.Refusal.TheVariants.{NoWindow}
use Rattle.session_model.specs.Tables.{Tables, client_at}
use Rattle.session_model.specs.Deeds.{Answer, given, parts}
use Rattle.session_state.specs.declared.state.StepOutput.{StepOutput}
use Rattle.session_state.specs.declared.state.State.{State}
use Rattle.session_state.specs.Stands.{Stands}
use Rattle.session_model.specs.Sound.{AreFit}
use Rattle.session_state.specs.Doing.{Answers}
use Rattle.session_commands.specs.declared.giver.Context.{Context}
use Rattle.session_commands.specs.Contexts.{IsWhole}

-- the answer of a command that lists nothing
abbrev pub Settled :
    Tables → Answer → Result (Unit {0}) Refusal → State → StepOutput → StepOutput → Type 0
Settled t answer (Ok done) new before after = Answers t answer (Ok None) new before after
Settled t answer (Err r) new before after = Answers t answer (Err r) new before after

-- for all tables that the state stood for
abbrev pub Settles :
    (Tables → Answer) → Context → Result (Unit {0}) Refusal → Context → Type 0
Settles answer old result new =
    IsWhole old result new
    × ((t : Tables) → Stands t old.state.now → AreFit t
    → Settled t (answer t) result new.state.now old.made.now new.made.now)

-- the client with this serial, if there is one, goes
abbrev pub detaching : ℕ → Tables → Answer
detaching client t =
    given (client_at t client) NoWindow
    (λ c. Ok (parts (λ d. d.serial == client) reason.Detached t))
