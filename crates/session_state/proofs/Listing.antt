-- The list of clients that is made is the definitions' list.
use Rattle.session_state.proofs.Vocabulary.{◌≡◌, ℕ, List, Option, Some, None, refl, ap, ◌∙◌, map, codes, Arrangement}
use Rattle.session_state.proofs.Vocabulary.{Tables, row_of, window_at, focused, separated, BothOrNone, rows_match}
use Rattle.session_state.proofs.Vocabulary.{mapped_match, client_line, Window, WindowStands, StandFor, Client}
use Rattle.session_state.proofs.Vocabulary.{ClientStands, Stands, client_item}
use Rattle.std.specs.Prelude.{slice_get}
use Rattle.std.specs.Option.{option_map, option_and_then}
use Rattle.regions.specs.declared.layout.Shown.{Shown}
use Rattle.session_model.specs.Tables as model
use Rattle.session_model.specs.Texts as model_texts
use Rattle.session_model.specs.Texts.{focus_text, clients_text}
use Rattle.session_state.specs.Items.{number_or_dash, number_of_window, client_line_is}
use Rattle.session_state.specs.Moves.{in_focus}
use Rattle.session_state.specs.declared.state.State.{State}
use Rattle.session_state.specs.Listing.{number_shown}

number_alike : (o : Option model.Window) (p : Option Window) → BothOrNone WindowStands o p
    → option_map (λ (w : Window). w.number) p ≡ option_map (λ (w : model.Window). w.number) o
number_alike None None m = refl
number_alike (Some w) (Some v) m = ap (λ (n : ℕ). Some n) m.number_is
number_alike None (Some v) m = absurd m
number_alike (Some w) None m = absurd m

-- the number of the window that is shown
number_of_focus : (t : Tables) (ws : List Window) (focus : Option ℕ) → StandFor t.windows ws
    → number_or_dash (option_map (λ (w : Window). w.number)
    (option_and_then (row_of (λ (w : Window). w.serial) ws) focus))
    ≡ focus_text t focus
number_of_focus t ws None are = refl
number_of_focus t ws (Some serial) are =
    ap number_or_dash
    (number_alike (window_at t serial) (row_of (λ (w : Window). w.serial) ws serial)
    (rows_match WindowStands (λ (w : model.Window). w.serial) (λ (w : Window). w.serial)
    (λ m w st. st.serial_is) t.windows ws serial are))
    ∙ number_of_window (window_at t serial)

focus_alike : (m : model.Client) (c : Client) → ClientStands m c → in_focus c ≡ focused m
focus_alike m c st =
    ap (λ (l : Arrangement). option_and_then (λ (s : Shown). s.window) (slice_get l.shown l.focus))
    st.layout_is

item_alike : (t : Tables) (ws : List Window) → StandFor t.windows ws → (m : model.Client)
    (c : Client) → ClientStands m c → client_item ws c ≡ model_texts.client_item t m
item_alike t ws are m c st =
    ap (λ (n : ℕ). client_line n c.user (number_shown ws c)) st.serial_is
    ∙ (ap (λ u. client_line m.serial u (number_shown ws c)) st.user_is
    ∙ client_line_is t m (number_shown ws c)
    (number_of_focus t ws (in_focus c) are ∙ ap (focus_text t) (focus_alike m c st)))

-- the items of the clients
pub clients_alike : (t : Tables) (s : State) → Stands t s
    → separated (codes "  ") (map (client_item s.windows) s.clients) ≡ clients_text t
clients_alike t s st =
    ap (separated (codes "  "))
    (mapped_match ClientStands (model_texts.client_item t) (client_item s.windows)
    (item_alike t s.windows st.windows) t.clients s.clients st.clients)
