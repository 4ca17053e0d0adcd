-- What status lines say, for all tables that a state stands for.
use Rattle.std.specs.Prelude.{ℕ, ◌≡◌, List}
use Rattle.session_model.specs.Tables as model
use Rattle.session_model.specs.Tables.{Tables}
use Rattle.session_model.specs.Granted.{message_text, status_text}
use Rattle.session_state.specs.declared.client.Client.{Client}
use Rattle.session_state.specs.Clients.{ClientStands}
use Rattle.session_state.specs.declared.state.State.{State}
use Rattle.session_state.specs.Stands.{Stands}
use Rattle.session_model.specs.Sound.{AreFit}

-- a client's message
abbrev pub SaysMessage : State → Client → List ℕ → Type 0
SaysMessage s c text = (t : Tables) (m : model.Client) → Stands t s → AreFit t → ClientStands m c
    → text ≡ message_text t m m.message

-- a client's status line
abbrev pub SaysStatus : State → Client → List ℕ → Type 0
SaysStatus s c text = (t : Tables) (m : model.Client) → Stands t s → AreFit t → ClientStands m c
    → text ≡ status_text t m
