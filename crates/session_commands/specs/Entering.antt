-- How a user enters a window.
use Rattle.std.specs.Prelude.{ℕ, ◌≡◌, ◌+◌, ◌++◌, true, [], ◌∷◌, Option, Some, None}
use Rattle.acl.specs.declared.user_id.UserId.{UserId}
use Rattle.acl.specs.declared.act.Act.{Act}
use Rattle.acl.specs.declared.act.Act.TheVariants as act
use Rattle.acl.specs.History.{is_open}
use Rattle.session_model.specs.Tables.{Window, Client, Tables, client_at, focused}
use Rattle.session_model.specs.Deeds.{acting, entering, selects}
use Rattle.session_state.specs.declared.state.StepOutput.{StepOutput}
use Rattle.session_state.specs.declared.state.State.{State}
use Rattle.session_state.specs.Stands.{Stands}
use Rattle.session_state.specs.Doing.{HasRoom, HasRoomToLeave, HasDone}
use Rattle.session_commands.specs.declared.giver.Context.{Context}
use Rattle.session_commands.specs.Contexts.{LendsTheSame}

-- the tables with one act more
abbrev pub with_act : Tables → Act → Tables
with_act t a = record t { acts = a ∷ t.acts }

-- one act comes after the others, in the room that there was
pub record HasOneActMore (a : Act) (before after : StepOutput) : Type 0 where
  pub acts : after.acts.items ≡ before.acts.items ++ a ∷ []
  pub effects : after.effects.items ≡ before.effects.items
  pub room : (n : ℕ) → HasRoom (n + 1) before → HasRoom n after

-- if the window is open: the state stands for the tables that it stood for, with the act
abbrev pub Enters : UserId → ℕ → Context → Context → Type 0
Enters user window old new =
    LendsTheSame old new × HasOneActMore (act.Entered user window) old.made.now new.made.now
    × ((t : Tables) → Stands t old.state.now → is_open t.acts window ≡ true
    → Stands (with_act t (act.Entered user window)) new.state.now)

-- the window, if there is one, is open by the acts
abbrev pub IsOpenThere : Tables → Option ℕ → Type 0
IsOpenThere t None = Unit {0}
IsOpenThere t (Some window) = is_open t.acts window ≡ true

-- the client's user enters the window in focus, if there is one
abbrev pub EntersFocus : ℕ → State → State → StepOutput → StepOutput → Type 0
EntersFocus client old new before after =
    (t : Tables) (c : Client) → Stands t old → client_at t client ≡ Some c
    → IsOpenThere t (focused c)
    → HasDone t (acting t (entering c.user (focused c))) new before after

abbrev pub EntersInFocus : ℕ → Context → Context → Type 0
EntersInFocus client old new =
    LendsTheSame old new × HasRoomToLeave new.made.now
    × EntersFocus client old.state.now new.state.now old.made.now new.made.now

-- the client's focused region shows the open window of the serial, and its user enters it
abbrev pub Selects : ℕ → ℕ → State → State → StepOutput → StepOutput → Type 0
Selects client window old new before after =
    (t : Tables) (c : Client) (w : Window) → Stands t old → client_at t client ≡ Some c
    → w.serial ≡ window → is_open t.acts window ≡ true
    → HasDone t (selects t c w) new before after

abbrev pub Shows : ℕ → ℕ → Context → Context → Type 0
Shows client window old new =
    LendsTheSame old new × HasRoomToLeave new.made.now
    × Selects client window old.state.now new.state.now old.made.now new.made.now
