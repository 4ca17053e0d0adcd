-- The bytes that a client's keys type.
use Rattle.std.specs.Prelude.{ℕ, ◌≡◌, ◌++◌, List, [], ◌∷◌, Option, Some, None}
use Rattle.std.specs.Option.{option_map_or}
use Rattle.session_model.specs.declared.event.Effect.{Effect}
use Rattle.session_model.specs.declared.event.Effect.TheVariants.{Input}
use Rattle.session_model.specs.declared.event.StatusMessage.{StatusMessage}
use Rattle.session_model.specs.declared.event.StatusMessage.TheVariants.{Silence, Text}
use Rattle.session_model.specs.Tables.{Tables, Client, client_at, focused, focused_window}
use Rattle.session_model.specs.Checks.{first_fault, typing_checks}
use Rattle.session_model.specs.Answering.{types, typing_verdicts}
use Rattle.session_model.specs.Texts.{text_of}
use Rattle.session_state.specs.declared.state.Caller.{Caller}
use Rattle.session_state.specs.declared.state.Step.{Step}
use Rattle.session_state.specs.declared.state.State.{State}
use Rattle.session_state.specs.Stands.{Stands}
use Rattle.session_model.specs.Sound.{AreFit}

-- the caller of a client's keys, for the window in focus
abbrev pub caller_by : ℕ → Client → Caller
caller_by serial c = record { user = c.user; client = Some serial; window = focused c }

-- bytes for the program of a window, if there is one
abbrev pub input_to : Option ℕ → List ℕ → List Effect
input_to window typed = option_map_or (λ w. Input w typed ∷ []) window []

-- the message on its status line then
abbrev pub message_after : Tables → Client → List ℕ → StatusMessage
message_after t c [] = Silence
message_after t c (b ∷ bytes) =
    elim (first_fault t (typing_checks c.user (focused_window t c))) [
      | None ↦ Silence
      | Some r ↦ Text (text_of r)
    ]

-- the bytes were typed: this is the effect, and the verdicts were noted
pub record Typed (t : Tables) (c : Client) (typed : List ℕ) (message : StatusMessage)
    (before after : Step) : Type 0 where
  pub message_is : message ≡ message_after t c typed
  pub effects : after.made.effects.items ≡ before.made.effects.items ++ (types t c typed).effects
  pub verdicts : after.verdicts.items ≡ before.verdicts.items ++ typing_verdicts t c typed

-- so it was for all tables that the state stands for
abbrev pub Types : Caller → ℕ → List ℕ → State → StatusMessage → Step → Step → Type 0
Types k client typed s message before after =
    (t : Tables) (c : Client) → Stands t s → AreFit t → client_at t client ≡ Some c
    → k ≡ caller_by client c → Typed t c typed message before after

-- these effects come after those before
abbrev pub Grows : List Effect → List Effect → Type 0
Grows before after = (more : List Effect) × (after ≡ before ++ more)
