-- What a command does to a session's state, whichever tables that stands for.
use Rattle.std.specs.Prelude.{ℕ, ◌≡◌, ◌⊎◌, ◌≤◌, ◌+◌, ◌++◌, List, Option, None, Result, Ok, Err}
use Rattle.std.specs.Prelude.{vec_len, vec_capacity, Some, IfOk, OnOk, OnErr}
use Rattle.std.specs.Option.{option_and_then}
use Rattle.acl.specs.History.{followed_by}
use Rattle.command_lang.specs.declared.command.Command.{Command}
use Rattle.session_model.specs.declared.refusal.Refusal.{Refusal}
use Rattle.session_model.specs.declared.refusal.Refusal.TheVariants.{NoMemory}
use Rattle.session_model.specs.Tables.{Tables, Client, window_at, client_at}
use Rattle.session_model.specs.Lines as model
use Rattle.session_model.specs.Checks.{checks, first_fault}
use Rattle.session_model.specs.Deeds.{Deed, Answer}
use Rattle.session_model.specs.Commands.{does}
use Rattle.session_state.specs.declared.state.Caller.{Caller}
use Rattle.session_state.specs.declared.state.StepOutput.{StepOutput}
use Rattle.session_state.specs.declared.state.State.{State}
use Rattle.session_state.specs.Stands.{Stands}
use Rattle.session_model.specs.Sound.{AreFit}

-- the caller of a command, with the row of the window
abbrev pub caller_in : Tables → Caller → model.Caller
caller_in t k = record {
  user = k.user;
  client = k.client;
  window = option_and_then (window_at t) k.window;
}

-- the tables once a deed is done
abbrev pub did : Tables → Deed → Tables
did t d = record d.tables { acts = followed_by t.acts d.acts }

-- a deed was done: the state stands for the tables then, and the deed's acts and effects come after
-- those before
pub record HasDone (t : Tables) (d : Deed) (new : State) (before after : StepOutput) : Type 0 where
  pub stands : Stands (did t d) new
  pub acts : after.acts.items ≡ before.acts.items ++ d.acts
  pub effects : after.effects.items ≡ before.effects.items ++ d.effects

-- a command's own deed was done, and what it lists was given; or it was refused as its row says, or
-- for want of memory
abbrev pub Answers :
    Tables → Answer → Result (Option (List ℕ)) Refusal → State → StepOutput → StepOutput → Type 0
Answers t answer (Ok lists) new before after =
    (d : Deed) × (answer ≡ Ok d) × (lists ≡ d.lists) × HasDone t d new before after
Answers t answer (Err r) new before after = (r ≡ NoMemory) ⊎ (answer ≡ Err r)

-- what a command answers to this caller, once its checks have passed
abbrev pub Does : Caller → Command → State → Result (Option (List ℕ)) Refusal →
    State → StepOutput → StepOutput → Type 0
Does k c old result new before after =
    (t : Tables) → Stands t old → AreFit t
    → first_fault t (checks t (caller_in t k) c) ≡ None
    → Answers t (does t (caller_in t k) c) result new before after

-- what it answers to every caller
abbrev pub DoesForAll : Command → State → Result (Option (List ℕ)) Refusal → State →
    StepOutput → StepOutput → Type 0
DoesForAll c old result new before after = (k : Caller) → Does k c old result new before after

-- what it answers to every caller for this window
abbrev pub DoesOn : ℕ → Command → State → Result (Option (List ℕ)) Refusal → State →
    StepOutput → StepOutput → Type 0
DoesOn window c old result new before after =
    (k : Caller) → k.window ≡ Some window → Does k c old result new before after

-- the client is attached
abbrev pub IsAttached : ℕ → State → Type 0
IsAttached client s = (t : Tables) → Stands t s → (m : Client) × (client_at t client ≡ Some m)

-- the caller gives commands by this client, which is attached
pub record GivesBy (client : ℕ) (s : State) (k : Caller) : Type 0 where
  pub client_is : k.client ≡ Some client
  pub attached : IsAttached client s

-- what it answers to every caller by this client
abbrev pub DoesBy : ℕ → Command → State → Result (Option (List ℕ)) Refusal → State →
    StepOutput → StepOutput → Type 0
DoesBy client c old result new before after =
    (k : Caller) → GivesBy client old k → Does k c old result new before after

-- nothing was done and nothing made
pub record IsAsBefore (old new : State) (before after : StepOutput) : Type 0 where
  pub state : new ≡ old
  pub acts : after.acts.items ≡ before.acts.items
  pub effects : after.effects.items ≡ before.effects.items

-- n more acts can be noted without memory
abbrev pub HasRoom : ℕ → StepOutput → Type 0
HasRoom n made = vec_len made.acts + n ≤ vec_capacity made.acts

-- room for what a command or an event does, and then for each client that leaves a window at the
-- step's end
abbrev pub HasRoomToAct : StepOutput → Type 0
HasRoomToAct made = HasRoom 256 made

-- room for each client that leaves a window at the step's end
abbrev pub HasRoomToLeave : StepOutput → Type 0
HasRoomToLeave made = HasRoom 64 made

-- done, and there is room to leave; or refused, and all is as before
abbrev pub IsWhole : {A E : Type 0} → Result A E → State → State →
    StepOutput → StepOutput → Type 0
IsWhole result old new before after =
    OnErr result (IsAsBefore old new before after) × OnOk result (HasRoomToLeave after)

-- done without a list, and there is room to leave; or refused, and all is as before
abbrev pub IsSilent : Result (Option (List ℕ)) Refusal → State → State →
    StepOutput → StepOutput → Type 0
IsSilent result old new before after =
    IfOk result (λ lists. lists ≡ None) × IsWhole result old new before after
