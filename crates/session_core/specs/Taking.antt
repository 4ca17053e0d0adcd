-- Steps that a session's state has taken.
use Rattle.std.specs.Prelude.{ℕ, ◌≡◌, ◌++◌, Bool, true, false, Some, Err}
use Rattle.session_model.specs.declared.refusal.Refusal.TheVariants.{NoMemory}
use Rattle.session_model.specs.Trace.{EventValue, Draw, Entry, Reply}
use Rattle.session_model.specs.Tables.{Client, Tables, client_at}
use Rattle.session_model.specs.Run as run
use Rattle.session_model.specs.Run.{IsStep, drawn_on}
use Rattle.session_state.specs.declared.state.Step.{Step}
use Rattle.session_state.specs.declared.state.StepOutput.{StepOutput}
use Rattle.session_state.specs.declared.state.State.{State}
use Rattle.session_state.specs.Stands.{Stands}
use Rattle.session_model.specs.Sound.{AreFit}
use Rattle.session_view.specs.Drawn.{HasDrawnSo}
use Rattle.session_core.specs.declared.sharing.Sharing.{Sharing}
use Rattle.session_core.specs.Sharing.{IsShared}

-- whether memory was refused
abbrev pub wants_memory : Reply → Bool
wants_memory (Err NoMemory) = true
wants_memory _ = false

-- a step of the session: the state stands for the tables after it, and its acts, effects and verdicts
-- come after those before
pub record HasTaken (t : Tables) (e : Entry) (new : State) (before after : Step) : Type 0 where
  pub step : IsStep t e
  pub stands : Stands (run.after t e) new
  pub acts : after.made.acts.items ≡ before.made.acts.items ++ e.acts
  pub effects : after.made.effects.items ≡ before.made.effects.items ++ e.effects
  pub verdicts : after.verdicts.items ≡ before.verdicts.items ++ e.verdicts

-- a step of this event with this reply, after which a fact holds of the tables
abbrev pub TakenAs : EventValue → Reply → Tables → (Tables → Type 0) → State → Step → Step → Type 0
TakenAs event reply t P new before after =
    (e : Entry) × (e.event ≡ event) × (e.reply ≡ reply) × HasTaken t e new before after
    × P (run.after t e)

-- the shared frame is so after a Draw, and stays at any other event
abbrev pub StayShared : EventValue → Sharing → Sharing → Tables → Type 0
StayShared (Draw client) old new after = IsShared after new
StayShared event old new after = new ≡ old

-- so it is for all tables that the state stood for, unless memory was refused
abbrev pub Takes : EventValue → State → Sharing → Reply → State → Sharing → Step → Step → Type 0
Takes event old shared result new shares before after =
    (t : Tables) → Stands t old → AreFit t → IsShared t shared → wants_memory result ≡ false
    → TakenAs event result t (StayShared event shared shares) new before after

-- the client with the serial is there and was drawn, and the shared frame is so then
abbrev pub DrawsSharing : ℕ → State → Sharing → State → Sharing → StepOutput → StepOutput → Type 0
DrawsSharing client old shared new shares before after =
    (t : Tables) → Stands t old → AreFit t → IsShared t shared
    → (c : Client) × (client_at t client ≡ Some c)
    × HasDrawnSo (λ effects. IsShared (drawn_on (Some c) effects t) shares) t c new before after
