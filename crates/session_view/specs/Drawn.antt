-- Draws, for all tables that a state stands for.
use Rattle.std.specs.Prelude.{ℕ, ◌≡◌, ◌⊎◌, ◌++◌, List, [], Option, Some, None, Result, Ok, Err}
use Rattle.redraw.specs.Shadow.{knowledge_of}
use Rattle.redraw.specs.Frames.{Made}
use Rattle.session_model.specs.declared.event.Effect.{Effect}
use Rattle.session_model.specs.declared.refusal.Refusal.{Refusal}
use Rattle.session_model.specs.declared.refusal.Refusal.TheVariants.{NoMemory, NoWindow}
use Rattle.session_model.specs.Tables.{Client, Tables, client_at}
use Rattle.session_model.specs.Run.{IsDraw, drawn_on}
use Rattle.session_state.specs.declared.state.State.{State}
use Rattle.session_state.specs.declared.state.StepOutput.{StepOutput}
use Rattle.session_state.specs.Stands.{Stands}
use Rattle.session_model.specs.Sound.{AreFit}
use Rattle.session_view.specs.Viewed.{IsGranted}

-- the client's draw comes after the earlier effects, and the state knows of it; no act was made
pub record HasDrawn (t : Tables) (c : Client) (new : State) (before after : StepOutput) : Type 0 where
  pub effects : List Effect
  pub is_draw : IsDraw t effects c
  pub effects_are : after.effects.items ≡ before.effects.items ++ effects
  pub acts_are : after.acts.items ≡ before.acts.items
  pub stands : Stands (drawn_on (Some c) effects t) new

-- the client with the serial is there, and it was drawn
abbrev pub DrawsFor : ℕ → State → State → StepOutput → StepOutput → Type 0
DrawsFor client old new before after = (t : Tables) → Stands t old → AreFit t
    → (c : Client) × (client_at t client ≡ Some c) × HasDrawn t c new before after

-- a frame leads a client's terminal from what was drawn last to what it is granted to see
pub record LeadsOn (t : Tables) (c : Client) (f : Made) : Type 0 where
  pub before : f.before ≡ knowledge_of c.rows c.columns c.drawn
  pub granted : IsGranted t c f.view

-- a draw of these effects
abbrev pub HasDrawnSo : (List Effect → Type 0) → Tables → Client → State → StepOutput → StepOutput
    → Type 0
HasDrawnSo P t c new before after = (d : HasDrawn t c new before after) × P d.effects

abbrev pub IsNothing : List Effect → Type 0
IsNothing effects = effects ≡ []

abbrev pub IsSomething : List Effect → Type 0
IsSomething effects = effects ≡ [] → ⊥

-- if the client with the serial is there and the frame leads it on, the client was drawn by the frame
abbrev pub Delivers : ℕ → Made → State → State → StepOutput → StepOutput → Type 0
Delivers client f old new before after = (t : Tables) (c : Client) → Stands t old
    → client_at t client ≡ Some c → LeadsOn t c f → HasDrawnSo IsSomething t c new before after

-- a client was drawn by a frame, or needed none
abbrev pub IsDrawnBy : Option Made → Tables → Client → State → StepOutput → StepOutput → Type 0
IsDrawnBy None t c new before after = HasDrawnSo IsNothing t c new before after
IsDrawnBy (Some f) t c new before after =
    LeadsOn t c f × HasDrawnSo IsSomething t c new before after

-- the client with the serial is there, and was drawn by a frame or needed none
abbrev pub DrawsBy : ℕ → Option Made → State → State → StepOutput → StepOutput → Type 0
DrawsBy client frame old new before after = (t : Tables) → Stands t old → AreFit t
    → (c : Client) × (client_at t client ≡ Some c) × IsDrawnBy frame t c new before after

-- no client has the serial, or memory is refused
abbrev pub IsRefusedFor : {X : Type 0} → ℕ → State → Result X Refusal → Type 0
IsRefusedFor client old (Ok done) = Unit {0}
IsRefusedFor client old (Err r) = (t : Tables) → Stands t old → AreFit t
    → (r ≡ NoMemory) ⊎ ((r ≡ NoWindow) × (client_at t client ≡ None))
