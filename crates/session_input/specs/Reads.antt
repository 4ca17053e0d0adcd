-- What a step of keys does.
use Rattle.std.specs.Prelude.{ℕ, ◌≡◌, ◌++◌, List, Option, Some, None, Result, Ok, Err, length, take}
use Rattle.session_model.specs.declared.refusal.Refusal.{Refusal}
use Rattle.session_model.specs.declared.refusal.Refusal.TheVariants.{NoMemory, NoWindow}
use Rattle.session_model.specs.declared.refusal.Verdict.{Verdict}
use Rattle.session_model.specs.Tables.{Tables, Client, client_at, with_client}
use Rattle.session_model.specs.Deeds.{Deed}
use Rattle.session_model.specs.Keying.{items_behind, taken, typed_bytes, command_item}
use Rattle.session_model.specs.Answering.{Ordered, ordered, types, typing_verdicts, reading, unsaid}
use Rattle.session_model.specs.Outcomes.{left_acts}
use Rattle.session_state.specs.declared.state.StepOutput.{StepOutput}
use Rattle.session_state.specs.declared.state.Step.{Step}
use Rattle.session_state.specs.declared.state.State.{State}
use Rattle.session_state.specs.Stands.{Stands}
use Rattle.session_model.specs.Sound.{AreFit}
use Rattle.session_events.specs.Leaving.{ended}
pub use Rattle.session_input.specs.Ruled.{Ruled}

-- what the keys type after those before them
abbrev pub typing : Tables → Client → List ℕ → Deed
typing t c keys =
    types (with_client t (reading keys c)) (reading keys c)
    (typed_bytes (items_behind c.keys keys))

-- what the command or the line does that the keys complete
abbrev pub order : Tables → Client → List ℕ → Ordered
order t c keys =
    ordered (typing t c keys).tables (reading keys c) (command_item (items_behind c.keys keys))

-- what the keys type, and then what their command does
abbrev pub keys_verdicts : Tables → Client → List ℕ → List Verdict
keys_verdicts t c keys =
    typing_verdicts t c (typed_bytes (items_behind c.keys keys)) ++ (order t c keys).verdicts

abbrev pub keys_deed : Tables → Client → List ℕ → Deed
keys_deed t c keys =
    record (order t c keys).deed {
      effects = (typing t c keys).effects
          ++ unsaid (typing t c keys).effects (order t c keys).deed.effects;
    }

-- the keys that a step reads
abbrev pub read_of : Client → List ℕ → List ℕ
read_of c bytes = take (taken c.keys bytes) bytes

-- a deed was done, and then users left windows
pub record HasEnded (t : Tables) (d : Deed) (new : State) (before after : StepOutput) : Type 0 where
  pub stands : Stands (ended t d) new
  pub acts :
      after.acts.items ≡ before.acts.items ++ (d.acts ++ left_acts t.clients d.tables.clients)
  pub effects : after.effects.items ≡ before.effects.items ++ d.effects

-- these keys were read, their step was taken to its end, and their verdicts were noted
pub record HasRead (t : Tables) (c : Client) (read : List ℕ) (count : ℕ) (new : State)
    (before after : Step) : Type 0 where
  pub count_is : count ≡ length read
  pub ended : HasEnded t (keys_deed t c read) new before.made after.made
  pub verdicts : after.verdicts.items ≡ before.verdicts.items ++ keys_verdicts t c read

-- if there is a client that gave the keys; memory may be refused
abbrev pub ReadFor : Tables → Option Client → List ℕ → Result ℕ Refusal → State → Step → Step → Type 0
ReadFor t (Some c) bytes (Ok count) new before after =
    HasRead t c (read_of c bytes) count new before after
ReadFor t (Some c) bytes (Err r) new before after = r ≡ NoMemory
ReadFor t None bytes (Ok count) new before after = ⊥
ReadFor t None bytes (Err r) new before after =
    (r ≡ NoWindow) × (after.verdicts.items ≡ before.verdicts.items)

-- so it was for all tables that the state stood for
abbrev pub Reads : ℕ → List ℕ → State → Result ℕ Refusal → State → Step → Step → Type 0
Reads client bytes old result new before after =
    (t : Tables) → Stands t old → AreFit t
    → ReadFor t (client_at t client) bytes result new before after
