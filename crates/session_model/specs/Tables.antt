-- The state of a session at a moment.
use Rattle.std.specs.Prelude.{ℕ, Bool, false, not, ◌==◌, ◌&&◌, List, [], Option, Some, None}
use Rattle.std.specs.Prelude.{if◌then◌else◌, filter, slice_get}
use Rattle.std.specs.List.{list_any}
use Rattle.std.specs.Option.{option_and_then}
use Rattle.acl.specs.declared.user_id.UserId.{UserId}
use Rattle.acl.specs.Same.{same_user}
use Rattle.acl.specs.History as acl
use Rattle.regions.specs.declared.layout.Shown.{Shown}
use Rattle.regions.specs.Layouts.{Arrangement}
use Rattle.terminal_model.specs.Shows.{View}
pub use Rattle.windows_model.specs.Finding.{row_of, with_row}
pub use Rattle.windows_model.specs.Table.{Window}
use Rattle.session_model.specs.declared.event.StatusMessage.{StatusMessage}
use Rattle.acl.specs.declared.leaders.Edition.{Edition}

-- A client: its user; the size of its terminal; all its keys; everything that was delivered to it
-- since it attached or last changed its size, and the view that was drawn last since then; its
-- regions and what they show; the window that was in focus last, and the one before that; its
-- message.
pub record Client : Type 0 where
  pub serial : ℕ
  pub user : UserId
  pub rows : ℕ
  pub columns : ℕ
  pub keys : List ℕ
  pub delivered : List ℕ
  pub drawn : Option View
  pub layout : Arrangement
  pub last : Option ℕ
  pub former : Option ℕ
  pub message : StatusMessage

-- The owner, the edition of groups, the acts of all steps, whether other users may attach
-- (multiuser), the open windows and the clients by rising serials, and the next serial of each
-- kind.
pub record Tables : Type 0 where
  pub owner : UserId
  pub edition : Edition
  pub acts : acl.History
  pub is_multiuser : Bool
  pub windows : List Window
  pub clients : List Client
  pub next_window : ℕ
  pub next_client : ℕ

-- the tables of a new session: it is single-user, and has no window and no client
abbrev pub fresh : Edition → UserId → Tables
fresh edition owner = record {
  owner = owner;
  edition = edition;
  acts = [];
  is_multiuser = false;
  windows = [];
  clients = [];
  next_window = 0;
  next_client = 0;
}

-- ---- rows by their serials

abbrev pub window_at : Tables → ℕ → Option Window
window_at t serial = row_of (λ (w : Window). w.serial) t.windows serial

abbrev pub client_at : Tables → ℕ → Option Client
client_at t serial = row_of (λ (c : Client). c.serial) t.clients serial

-- the tables with one row changed
abbrev pub with_window : Tables → Window → Tables
with_window t w =
    record t { windows = with_row (λ (v : Window). v.serial) t.windows w.serial w }

abbrev pub with_client : Tables → Client → Tables
with_client t c =
    record t { clients = with_row (λ (d : Client). d.serial) t.clients c.serial c }

-- ---- who sees what

-- the window in a client's focused region
abbrev pub focused : Client → Option ℕ
focused c = option_and_then (λ (s : Shown). s.window) (slice_get c.layout.shown c.layout.focus)

abbrev pub focused_window : Tables → Client → Option Window
focused_window t c = option_and_then (window_at t) (focused c)

-- whether the focused region shows this window
abbrev pub is_window : ℕ → Option ℕ → Bool
is_window w None = false
is_window w (Some v) = v == w

-- whether this is a client of the user whose focused region shows the window
abbrev pub shows : UserId → ℕ → Client → Bool
shows user window c = same_user c.user user && is_window window (focused c)

abbrev pub is_in_focus : List Client → UserId → ℕ → Bool
is_in_focus clients user window = list_any (shows user window) clients

-- the window that was in focus last, and the one before that, after perhaps another one got the
-- focus
abbrev pub last_after : Option ℕ → Option ℕ → Option ℕ
last_after None last = last
last_after (Some w) last = Some w

abbrev pub former_after : Option ℕ → Option ℕ → Option ℕ → Option ℕ
former_after None last former = former
former_after (Some w) last former = if is_window w last then former else last

abbrev pub seeing : Option ℕ → Client → Client
seeing focus c =
    record c { last = last_after focus c.last; former = former_after focus c.last c.former }

abbrev pub with_layout : Arrangement → Client → Client
with_layout l c = let d : Client = record c { layout = l } in seeing (focused d) d

-- the known users, the owner first, and the known users without the owner, in the order in which
-- they became known
abbrev pub known_users : Tables → List UserId
known_users t = acl.users_of t.owner t.acts

abbrev pub others : Tables → List UserId
others t = filter (λ u. not (same_user t.owner u)) (known_users t)

abbrev pub is_known : Tables → UserId → Bool
is_known t user = acl.is_known t.owner t.acts user
