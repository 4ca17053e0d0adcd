-- A client that is drawn what another client is granted to see.
use Rattle.std.specs.Prelude.{ℕ, ◌≡◌, Bool, true, false, Option, Some}
use Rattle.terminal_model.specs.Shows.{View, NeedsNoDraw}
use Rattle.session_model.specs.Tables.{Client, Tables, client_at}
use Rattle.session_model.specs.Granted.{granted_view}
use Rattle.session_state.specs.declared.state.State.{State}
use Rattle.session_state.specs.declared.state.StepOutput.{StepOutput}
use Rattle.session_state.specs.Stands.{Stands}
use Rattle.session_model.specs.Sound.{AreFit}
use Rattle.session_view.specs.declared.following.Lead.{Lead}
use Rattle.session_view.specs.Sameness.{AreBothAlike}
use Rattle.session_view.specs.Viewed.{IsGranted}
use Rattle.session_view.specs.Drawn.{HasDrawnSo, IsSomething}

-- the frame is one for terminals of the client's size, and shows what the client is granted to see
pub record Leads (t : Tables) (c : Client) (l : Lead) : Type 0 where
  pub granted : IsGranted t c l.frame.view
  pub rows : l.frame.before.rows ≡ c.rows
  pub columns : l.frame.before.columns ≡ c.columns

abbrev pub IsLed : Tables → Lead → Type 0
IsLed t l = (c : Client) → client_at t l.client ≡ Some c → Leads t c l

-- this was drawn last for the client with the serial, if it is there
abbrev pub Knows : Tables → Option View → ℕ → Type 0
Knows t known client = (c : Client) → client_at t client ≡ Some c → c.drawn ≡ known

-- the client with the serial is there, is granted to see what the frame shows, and was drawn that
abbrev pub DrawsLike : ℕ → Lead → Bool → State → State → StepOutput → StepOutput → Type 0
DrawsLike client l knows old new before after = (t : Tables) → Stands t old → AreFit t
    → IsLed t l → (knows ≡ true → Knows t l.frame.before.known client)
    → (c : Client) × (client_at t client ≡ Some c) × (l.frame.view ≡ granted_view t c)
    × HasDrawnSo IsSomething t c new before after

-- if the client with the serial is known to see the same as the client of the frame, it is left alone
-- only if what the frame shows was drawn for it already
abbrev pub IsLeftAlone : ℕ → Lead → Bool → State → Type 0
IsLeftAlone client l knows old = (t : Tables) → Stands t old → AreFit t → IsLed t l
    → AreBothAlike client l.client t
    → (knows ≡ false)
    × ((c : Client) → client_at t client ≡ Some c → NeedsNoDraw c.drawn l.frame.view)
