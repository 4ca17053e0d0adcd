-- Lists of a state, for all tables that it stands for.
use Rattle.std.specs.Prelude.{ℕ, ◌≡◌, ◌++◌, true, List, Option}
use Rattle.std.specs.Option.{option_map, option_and_then, is_some}
use Rattle.acl.specs.declared.user_id.UserId.{UserId}
use Rattle.session_model.specs.Tables as model
use Rattle.session_model.specs.Tables.{Tables, row_of, window_at}
use Rattle.session_model.specs.Texts.{window_item, windows_text, clients_text}
use Rattle.session_state.specs.Items.{client_line}
use Rattle.windows.specs.declared.window.Window.{Window}
use Rattle.windows.specs.Standing.{WindowStands}
use Rattle.session_state.specs.declared.client.Client.{Client}
use Rattle.session_state.specs.Moves.{in_focus}
use Rattle.session_state.specs.declared.state.State.{State}
use Rattle.session_state.specs.Stands.{Stands}
use Rattle.session_model.specs.Sound.{AreFit}

-- the list of the windows, as a user may read it
abbrev pub SaysWindows : State → UserId → Option ℕ → List ℕ → Type 0
SaysWindows s user focus text =
    (t : Tables) → Stands t s → AreFit t → text ≡ windows_text t user focus

-- the list of the clients
abbrev pub SaysClients : State → List ℕ → Type 0
SaysClients s text = (t : Tables) → Stands t s → AreFit t → text ≡ clients_text t

-- the item of an open window was appended
abbrev pub IsItem : State → UserId → Option ℕ → Window → List ℕ → List ℕ → Type 0
IsItem s user focus w before after =
    (t : Tables) (m : model.Window) → Stands t s → AreFit t → WindowStands m w
    → is_some (window_at t m.serial) ≡ true → after ≡ before ++ window_item t user focus m

-- the number of the window in a client's focused region
abbrev pub number_shown : List Window → Client → Option ℕ
number_shown ws c =
    option_map (λ (w : Window). w.number)
    (option_and_then (row_of (λ (w : Window). w.serial) ws) (in_focus c))

-- a client's item
abbrev pub client_item : List Window → Client → List ℕ
client_item ws c = client_line c.serial c.user (number_shown ws c)
