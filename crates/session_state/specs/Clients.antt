-- What a client's row stands for.
use Rattle.std.specs.Prelude.{◌≡◌, ℕ, Bool, true, List, [], ◌∷◌, ◌++◌, Option, Some, None, filter, map}
use Rattle.terminal_model.specs.Reading.{Terminal, reads}
use Rattle.terminal_model.specs.Shows.{View, IsOfSize}
use Rattle.terminal_model.specs.Drawing.{Agrees}
use Rattle.redraw.specs.Frames.{CanBeShown}
use Rattle.regions.specs.Pages.{has_room}
use Rattle.keys.specs.Kept as keys
use Rattle.session_model.specs.Tables as model
use Rattle.session_model.specs.Tables.{row_of, with_row}
use Rattle.session_model.specs.Comings.{is_client_size}
use Rattle.windows_model.specs.Matched.{Matched}
use Rattle.session_state.specs.declared.client.Client.{Client}

-- a view was drawn if something was delivered, and only then
abbrev pub WasDelivered : Option View → List ℕ → Type 0
WasDelivered None before = before ≡ []
WasDelivered (Some v) before = before ≡ [] → ⊥

-- every terminal of this size that has read what was delivered shows what was drawn last, and has
-- answered nothing
pub record IsScreen (rows columns : ℕ) (drawn : Option View) (delivered : List ℕ) : Type 0 where
  pub agrees : (t : Terminal) → IsOfSize rows columns t
      → Agrees rows columns drawn (reads t delivered).terminal
  pub quiet : (t : Terminal) → IsOfSize rows columns t → (reads t delivered).reports ≡ []
  pub can_be_shown : CanBeShown drawn
  pub delivers : WasDelivered drawn delivered

-- Who the client is; its reader has read all its keys; its page, on which each region has room, and
-- the windows that were in focus; its message; and its shadow, which knows what was drawn last.
pub record ClientStands (m : model.Client) (c : Client) : Type 0 where
  pub serial_is : c.serial ≡ m.serial
  pub user_is : c.user ≡ m.user
  pub rows_are : c.shadow.rows ≡ m.rows
  pub columns_are : c.shadow.columns ≡ m.columns
  pub sized : is_client_size m.rows m.columns ≡ true
  pub keys : keys.StandsFor c.keys m.keys
  pub layout_is : c.layout ≡ m.layout
  pub last_is : c.last ≡ m.last
  pub former_is : c.former ≡ m.former
  pub room : has_room m.layout.shape m.rows m.columns ≡ true
  pub message_is : c.message ≡ m.message
  pub known_is : c.shadow.known ≡ m.drawn
  pub screen : IsScreen m.rows m.columns m.drawn m.delivered

-- the clients of a model's table
abbrev pub AreClients : List model.Client → List Client → Type 0
AreClients rows clients = Matched ClientStands rows clients

-- the row with this serial changes, and no other
abbrev pub Changes : (model.Client → model.Client) → ℕ → List Client → List Client → Type 0
Changes f serial old new =
    (rows : List model.Client) (m : model.Client) → AreClients rows old
    → row_of (λ (c : model.Client). c.serial) rows serial ≡ Some m
    → AreClients (with_row (λ (c : model.Client). c.serial) rows serial (f m)) new

-- rows that pass a test stay, and no other
abbrev pub Keeps : (model.Client → Bool) → List Client → List Client → Type 0
Keeps stays old new =
    (rows : List model.Client) → AreClients rows old → AreClients (filter stays rows) new

-- a row is added after the others
pub record Attaches (m : model.Client) (old new : List Client) : Type 0 where
  pub made : Client
  pub stands : ClientStands m made
  pub new_is : new ≡ old ++ made ∷ []
  pub attached : (rows : List model.Client) → AreClients rows old → AreClients (rows ++ m ∷ []) new

-- all rows change
abbrev pub ChangesAll : (model.Client → model.Client) → List Client → List Client → Type 0
ChangesAll f old new =
    (rows : List model.Client) → AreClients rows old → AreClients (map f rows) new

-- a fact of the row with this serial
abbrev pub Finds : ℕ → List Client → (model.Client → Type 0) → Type 0
Finds serial old P =
    (rows : List model.Client) (m : model.Client) → AreClients rows old
    → row_of (λ (c : model.Client). c.serial) rows serial ≡ Some m → P m
