-- What clients are granted to see, for all tables that a state stands for.
use Rattle.std.specs.Prelude.{ℕ, ◌≡◌, Option, Some, None, Result, Ok, Err}
use Rattle.terminal_model.specs.Shows.{View}
use Rattle.view.specs.View.{HasSize}
use Rattle.view.specs.Drawable.{IsDrawable}
use Rattle.session_model.specs.declared.refusal.Refusal.{Refusal}
use Rattle.session_model.specs.declared.refusal.Refusal.TheVariants.{NoMemory, NoWindow}
use Rattle.session_model.specs.Tables as model
use Rattle.session_model.specs.Tables.{Tables, client_at}
use Rattle.session_model.specs.Granted.{granted_view}
use Rattle.session_state.specs.declared.client.Client.{Client}
use Rattle.session_state.specs.Clients.{ClientStands}
use Rattle.session_state.specs.declared.state.State.{State}
use Rattle.session_state.specs.Stands.{Stands}
use Rattle.session_model.specs.Sound.{AreFit}

-- the client's granted view, which its terminal can show
pub record IsGranted (t : Tables) (m : model.Client) (v : View) : Type 0 where
  pub granted : v ≡ granted_view t m
  pub drawable : IsDrawable v
  pub size : HasSize m.rows m.columns v

abbrev pub IsViewFor : State → Client → View → Type 0
IsViewFor s c v = (t : Tables) (m : model.Client) → Stands t s → AreFit t → ClientStands m c
    → IsGranted t m v

-- the granted view of the client with the serial, if there is one; memory may be refused
abbrev pub ViewOf : Tables → Option model.Client → Result View Refusal → Type 0
ViewOf t (Some m) (Ok v) = IsGranted t m v
ViewOf t (Some m) (Err r) = r ≡ NoMemory
ViewOf t None (Ok v) = ⊥
ViewOf t None (Err r) = r ≡ NoWindow

abbrev pub IsViewOf : State → ℕ → Result View Refusal → Type 0
IsViewOf s client result =
    (t : Tables) → Stands t s → AreFit t → ViewOf t (client_at t client) result
