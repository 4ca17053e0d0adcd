-- Two clients that are granted to see the same.
use Rattle.std.specs.Prelude.{ℕ, ◌≡◌, ◌↔◌, Bool, true, false, List, Some, None, map}
use Rattle.acl.specs.declared.user_id.UserId.{UserId}
use Rattle.keys.specs.Grammar.{items, open_line}
use Rattle.keys.specs.Kept.{rest_of}
use Rattle.regions.specs.declared.layout.Shown.{Shown}
use Rattle.session_model.specs.declared.event.StatusMessage.{StatusMessage}
use Rattle.session_model.specs.declared.event.StatusMessage.TheVariants as message
use Rattle.session_model.specs.Tables as model
use Rattle.session_model.specs.Tables.{Tables, client_at}
use Rattle.session_model.specs.Granted.{part_shown, granted_view}
use Rattle.session_state.specs.declared.client.Client.{Client}
use Rattle.session_state.specs.Clients.{ClientStands}
use Rattle.session_state.specs.declared.state.State.{State}
use Rattle.session_state.specs.Stands.{Stands}
use Rattle.session_model.specs.Sound.{AreFit}

-- one client is granted to see what another one is, on a terminal of the same size
pub record SeesAlso (t : Tables) (m n : model.Client) : Type 0 where
  pub granted : granted_view t m ≡ granted_view t n
  pub rows : m.rows ≡ n.rows
  pub columns : m.columns ≡ n.columns

-- clients with these serials are there, and are granted to see the same
abbrev pub SeeTheSame : ℕ → ℕ → State → Type 0
SeeTheSame client other s = (t : Tables) → Stands t s → AreFit t
    → (m n : model.Client) × (client_at t client ≡ Some m) × (client_at t other ≡ Some n)
    × SeesAlso t m n

-- ---- what tells that

-- regions that show two users the same
abbrev pub ShowBoth : Tables → UserId → UserId → List Shown → Type 0
ShowBoth t user other shown = map (part_shown t user) shown ≡ map (part_shown t other) shown

-- a message that says the same text to each client
abbrev pub is_for_all : StatusMessage → Bool
is_for_all message.Silence = true
is_for_all (message.Text bytes) = true
is_for_all message.AllWindows = false
is_for_all message.AllClients = true

-- one message, which says the same text to both clients
abbrev pub SayTheSame : StatusMessage → StatusMessage → Type 0
SayTheSame m n = (m ≡ n) × (is_for_all m ≡ true)

-- Terminals of the same size; the same regions, which show both users the same; no prompt is open,
-- and the messages say the same.
pub record AreKnownAlike (t : Tables) (m n : model.Client) : Type 0 where
  pub rows : m.rows ≡ n.rows
  pub columns : m.columns ≡ n.columns
  pub layout : m.layout ≡ n.layout
  pub shown : ShowBoth t m.user n.user m.layout.shown
  pub closed : open_line (items m.keys).1 ≡ None
  pub others_closed : open_line (items n.keys).1 ≡ None
  pub messages : SayTheSame m.message n.message

-- the clients with two serials are there and are known to see the same
abbrev pub AreBothAlike : ℕ → ℕ → Tables → Type 0
AreBothAlike client other t =
    (m n : model.Client) × (client_at t client ≡ Some m) × (client_at t other ≡ Some n)
    × AreKnownAlike t m n

-- ---- of a state

-- what an answer says, for all tables that a state stands for
abbrev pub Tells : State → Bool → (Tables → Type 0) → Type 0
Tells s answer P = (t : Tables) → Stands t s → AreFit t → (answer ≡ true) ↔ P t

-- what an answer says of the rows of two clients
abbrev pub TellsOf : State → Client → Client → Bool → Type 0
TellsOf s a b answer = (t : Tables) (m n : model.Client) → Stands t s → AreFit t
    → ClientStands m a → ClientStands n b → (answer ≡ true) ↔ AreKnownAlike t m n

-- their terminals have the same size
abbrev pub HaveSameSize : Client → Client → Type 0
HaveSameSize a b = (a.shadow.rows ≡ b.shadow.rows) × (a.shadow.columns ≡ b.shadow.columns)

-- no prompt is open
abbrev pub IsClosed : Client → Type 0
IsClosed c = open_line (rest_of c.keys) ≡ None

-- their status lines say the same
abbrev pub HaveSameStatus : Client → Client → Type 0
HaveSameStatus a b = IsClosed a × IsClosed b × SayTheSame a.message b.message
