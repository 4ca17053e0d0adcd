-- What a step of keys does, by the command that the keys complete.
use Rattle.std.specs.Prelude.{◌≡◌, ℕ, true, List, [], ◌∷◌, ◌++◌, Option, Some, None, Ok, Err, take}
use Rattle.std.specs.List.{AllByRecursion}
use Rattle.acl.specs.History.{followed_by}
use Rattle.command_lang.specs.declared.command.Command.{Command as Order}
use Rattle.keys.specs.Grammar.{Item, bound, line}
use Rattle.session_model.specs.declared.event.Effect.{Effect}
use Rattle.session_model.specs.declared.event.Effect.TheVariants.{Say}
use Rattle.session_model.specs.declared.event.StatusMessage.TheVariants.{Text}
use Rattle.session_model.specs.declared.refusal.Refusal.{Refusal}
use Rattle.session_model.specs.declared.refusal.Refusal.TheVariants.{Line}
use Rattle.session_model.specs.Trace.{EventValue, Keys, Entry}
use Rattle.session_model.specs.Tables.{Client, Tables, client_at, with_client}
use Rattle.session_model.specs.Texts.{text_of}
use Rattle.session_model.specs.Lines.{read_line}
use Rattle.session_model.specs.Deeds.{Deed, Answer}
use Rattle.session_model.specs.Commands.{ruling}
use Rattle.session_model.specs.Keying.{taken, step_items, typed_bytes, command_item}
use Rattle.session_model.specs.Answering.{types, reading, told, message_of, unsaid}
use Rattle.session_model.specs.Outcomes.{left_acts}
use Rattle.session_model.specs.Given.{Given, commands_of, has_x}
use Rattle.session_model.specs.Promises.{SomeOf}
use Rattle.session_model.specs.Run.{IsStep, after}

-- what the keys of a step type, on the tables in which they were read
abbrev pub typing : Tables → Client → List ℕ → Deed
typing t c bytes =
    let d : Client = reading (take (taken c.keys bytes) bytes) c in
    types (with_client t d) d (typed_bytes (step_items c bytes))

-- what a command lists is said to its client, and becomes its message
abbrev pub listed : ℕ → Option (List ℕ) → List Effect
listed client None = []
listed client (Some bytes) = Say client bytes ∷ []

abbrev pub heard : ℕ → Order → Option (List ℕ) → Tables → Tables
heard client order None t = t
heard client order (Some bytes) t = told t client (message_of order bytes)

abbrev pub IsSaid : Entry → ℕ → Option (List ℕ) → Type 0
IsSaid e client None = Unit {0}
IsSaid e client (Some bytes) = SomeOf (λ f. f ≡ Say client bytes) e.effects

-- after what was typed, the command's row was done: its acts, followed by those of users who left
-- windows; its effects and its list, without what was said before in the step; and its tables
pub record DidItsRowByKeys
    (t : Tables) (e : Entry) (c : Client) (typed : Deed) (g : Given) (deed : Deed) : Type 0 where
  pub granted : has_x t g ≡ true
  pub acts : e.acts ≡ deed.acts ++ left_acts t.clients deed.tables.clients
  pub effects :
      e.effects
      ≡ typed.effects ++ unsaid typed.effects (deed.effects ++ listed c.serial deed.lists)
  pub said : IsSaid e c.serial deed.lists
  pub tables :
      after t e ≡ record (heard c.serial g.order deed.lists deed.tables) {
        acts = followed_by t.acts e.acts;
      }

-- after what was typed, nothing more was done, and the refusal is said
pub record WasRefusedByKeys
    (t : Tables) (e : Entry) (c : Client) (typed : Deed) (r : Refusal) : Type 0 where
  pub acts : e.acts ≡ []
  pub effects :
      e.effects
      ≡ typed.effects ++ unsaid typed.effects (Say c.serial (text_of r) ∷ [])
  pub said : SomeOf (λ f. f ≡ Say c.serial (text_of r)) e.effects
  pub tables :
      after t e ≡ record (told typed.tables c.serial (Text (text_of r))) {
        acts = followed_by t.acts e.acts;
      }

abbrev pub IsAnswered : Tables → Entry → Client → Deed → Given → Answer → Type 0
IsAnswered t e c typed g (Ok deed) = DidItsRowByKeys t e c typed g deed
IsAnswered t e c typed g (Err r) = WasRefusedByKeys t e c typed r

-- nothing was done but what was typed
pub record WasTypedAlone (t : Tables) (e : Entry) (typed : Deed) : Type 0 where
  pub acts : e.acts ≡ []
  pub effects : e.effects ≡ typed.effects
  pub tables : after t e ≡ record typed.tables { acts = followed_by t.acts e.acts }

-- a line of the prompt that is no command is refused; an empty line does nothing, and neither do
-- keys that complete nothing
abbrev pub IsNoCommand : Tables → Entry → Client → Deed → Option Item → Type 0
IsNoCommand t e c typed (Some (bound order)) = Unit {0}
IsNoCommand t e c typed (Some (line (b ∷ bytes))) = elim (read_line (b ∷ bytes)) [
  | Ok order ↦ Unit {0}
  | Err f ↦ WasRefusedByKeys t e c typed (Line f)
]
IsNoCommand t e c typed _ = WasTypedAlone t e typed

-- the command is answered by its row, on the tables that typing left
pub record KeysAreAnswered (t : Tables) (e : Entry) (c : Client) (bytes : List ℕ) : Type 0 where
  pub command :
      AllByRecursion (λ g. IsAnswered t e c (typing t c bytes) g
      (ruling (typing t c bytes).tables g.caller g.order).answer) (commands_of t e.event)
  pub no_command : IsNoCommand t e c (typing t c bytes) (command_item (step_items c bytes))

abbrev pub KeysDidTheirRow : Tables → Entry → EventValue → Type 0
KeysDidTheirRow t e (Keys client bytes) =
    (c : Client) → client_at t client ≡ Some c → KeysAreAnswered t e c bytes
KeysDidTheirRow t e _ = Unit {0}

-- a command that keys complete is granted and does its row, or its client is told why not
abbrev pub KeysDoTheirRows : Type 0
KeysDoTheirRows = (t : Tables) (e : Entry) → IsStep t e → KeysDidTheirRow t e e.event
