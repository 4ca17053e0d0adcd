-- An outcome that has happened.
use Rattle.std.specs.Prelude.{◌≡◌, ◌⊎◌, ◌++◌, Ok, Err}
use Rattle.session_model.specs.declared.refusal.Refusal.TheVariants.{NoMemory}
use Rattle.session_model.specs.Trace.{EventValue, Reply}
use Rattle.session_model.specs.Tables.{Tables}
use Rattle.session_model.specs.Outcomes.{Outcome}
use Rattle.session_model.specs.Events.{outcome}
use Rattle.session_state.specs.declared.state.Step.{Step}
use Rattle.session_state.specs.declared.state.State.{State}
use Rattle.session_state.specs.Stands.{Stands}
use Rattle.session_model.specs.Sound.{AreFit}

-- its reply was given, the state stands for its tables, and its acts, effects and verdicts come after
-- those before
pub record HasHappened (o : Outcome) (reply : Reply) (new : State) (before after : Step) : Type 0 where
  pub replied : o.reply ≡ reply
  pub stands : Stands o.tables new
  pub acts : after.made.acts.items ≡ before.made.acts.items ++ o.acts
  pub effects : after.made.effects.items ≡ before.made.effects.items ++ o.effects
  pub verdicts : after.verdicts.items ≡ before.verdicts.items ++ o.verdicts

-- the outcome has happened, or memory was refused
abbrev pub Stepped : Outcome → Reply → State → Step → Step → Type 0
Stepped o (Ok done) new before after = HasHappened o (Ok done) new before after
Stepped o (Err r) new before after = (r ≡ NoMemory) ⊎ HasHappened o (Err r) new before after

-- an event's outcome has happened, for all tables that the state stood for
abbrev pub Steps : EventValue → State → Reply → State → Step → Step → Type 0
Steps event old reply new before after =
    (t : Tables) → Stands t old → AreFit t → Stepped (outcome t event) reply new before after
