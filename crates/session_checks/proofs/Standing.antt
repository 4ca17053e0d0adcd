-- A window or client is found in a state exactly if it is in the tables that the state stands for.
use Rattle.std.proofs.Common.{◌≡◌, ℕ, length, ◌∙◌, Some, refl}
use Rattle.session_model.specs.Tables as model
use Rattle.session_model.specs.Tables.{Tables, window_at}
use Rattle.windows_model.proofs.Matching.{length_match, both_back}
use Rattle.windows_model.proofs.Serials.{serial_is}
use Rattle.windows.specs.Standing.{WindowStands, Finds, at_serial}
use Rattle.windows.specs.declared.window.Window.{Window}
use Rattle.session_state.specs.Clients.{ClientStands}
use Rattle.session_state.specs.declared.state.State.{State}
use Rattle.session_state.specs.Stands.{Stands}

pub windows_counted : (t : Tables) (s : State) → Stands t s → (n : ℕ) → n ≡ length s.windows
    → n ≡ length t.windows
windows_counted t s st n is = is ∙ length_match WindowStands t.windows s.windows st.windows

pub clients_counted : (t : Tables) (s : State) → Stands t s → (n : ℕ) → n ≡ length s.clients
    → n ≡ length t.clients
clients_counted t s st n is = is ∙ length_match ClientStands t.clients s.clients st.clients

-- a window that was found is there in the tables
pub window_found : (t : Tables) (s : State) → Stands t s → (serial : ℕ) (w : Window)
    → Finds (at_serial serial) s.windows (Some w)
    → (m : model.Window) × (window_at t serial ≡ Some m) × (m.serial ≡ serial)
window_found t s st serial w finds =
    let found = both_back WindowStands (at_serial serial t.windows) (Some w) w (finds t.windows st.windows) refl in
    (found.0, found.1, serial_is (λ (v : model.Window). v.serial) t.windows serial found.0 found.1)
