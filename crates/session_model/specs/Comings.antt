-- What attaching a client, opening a window, a new size and output do.
use Rattle.std.specs.Prelude.{ℕ, ◌+◌, Bool, ◌&&◌, ◌||◌, nat_lt, nat_le, List, [], ◌∷◌, ◌++◌}
use Rattle.std.specs.Prelude.{Option, None, if◌then◌else◌, length, unwrap_or}
use Rattle.std.specs.Option.{option_map, is_some}
use Rattle.acl.specs.declared.user_id.UserId.{UserId}
use Rattle.acl.specs.declared.command_name.CommandName.TheVariants.{Screen}
use Rattle.acl.specs.declared.bits.Bit.TheVariants.{Execute}
use Rattle.acl.specs.declared.act.Object.TheVariants as object
use Rattle.acl.specs.declared.act.Act.TheVariants as act
use Rattle.acl.specs.slots.TheConstants.{WINDOWS}
use Rattle.acl.specs.Same.{same_user}
use Rattle.regions.specs.Layouts.{one_region, kept_alone}
use Rattle.regions.specs.Pages.{has_room}
use Rattle.terminal_model.specs.Reading.{reads}
use Rattle.terminal_model.specs.Writing as written
use Rattle.session_model.specs.declared.refusal.Check.{Check}
use Rattle.session_model.specs.declared.refusal.Check.TheVariants.{Right as right, Must as must}
use Rattle.session_model.specs.declared.event.StatusMessage.TheVariants as message
use Rattle.session_model.specs.declared.refusal.Refusal.TheVariants.{NotMultiuser, UnknownUser, TooManyClients, BadSize}
use Rattle.session_model.specs.declared.refusal.Refusal.TheVariants.{Windows}
use Rattle.windows_model.specs.declared.rows.WindowsFault.TheVariants.{Full, BadTitle}
use Rattle.session_model.specs.declared.event.TheConstants.{CLIENTS, SERIALS}
use Rattle.session_model.specs.Tables.{Window, Client, Tables, focused, seeing, is_known}
pub use Rattle.windows_model.specs.Table.{is_window_size}
use Rattle.session_model.specs.Terminals.{terminal_of}
use Rattle.session_model.specs.Naming.{lowest, free_number, is_title}
use Rattle.session_model.specs.Deeds.{Deed, acting, entering, writes, input_of}

-- ---- attaching and opening

abbrev pub is_client_size : ℕ → ℕ → Bool
is_client_size rows columns =
    nat_le 4 rows && nat_le rows 200 && nat_le 20 columns && nat_le columns 300

-- whether a user may attach: in single-user mode only the owner may
abbrev pub is_let_in : Tables → UserId → Bool
is_let_in t user = same_user t.owner user || t.is_multiuser

abbrev pub attach_checks : Tables → UserId → ℕ → ℕ → List Check
attach_checks t user rows columns =
    must (is_known t user) UnknownUser
    ∷ must (is_let_in t user) NotMultiuser
    ∷ must (is_client_size rows columns) BadSize
    ∷ must (nat_lt (length t.clients) CLIENTS && nat_lt t.next_client SERIALS) TooManyClients
    ∷ []

-- a new client, with one region that shows this window, if there is one
abbrev pub attached : ℕ → UserId → ℕ → ℕ → Option ℕ → Client
attached serial user rows columns window =
    let c : Client = record {
      serial = serial;
      user = user;
      rows = rows;
      columns = columns;
      keys = [];
      delivered = [];
      drawn = None;
      layout = one_region (record { window = window; back = 0 });
      last = None;
      former = None;
      message = message.Silence;
    } in seeing (focused c) c

-- a new client, which shows the window with the lowest number
abbrev pub new_client : Tables → UserId → ℕ → ℕ → Client
new_client t user rows columns =
    attached t.next_client user rows columns
    (option_map (λ (w : Window). w.serial) (lowest t.windows))

abbrev pub attaches : Tables → Client → Deed
attaches t c =
    acting (record t { clients = t.clients ++ c ∷ []; next_client = t.next_client + 1 })
    (act.Attached c.serial c.user ∷ entering c.user (focused c))

-- whether there is room for one more window, and a number is free
abbrev pub has_place : List Window → Bool
has_place windows = nat_lt (length windows) WINDOWS && is_some (free_number windows)

abbrev pub open_checks : Tables → UserId → ℕ → ℕ → ℕ → List ℕ → List Check
open_checks t user rows columns keep title =
    must (is_known t user) UnknownUser
    ∷ right user Execute (object.Command Screen)
    ∷ must (is_let_in t user) NotMultiuser
    ∷ must (is_window_size rows columns keep) BadSize
    ∷ must (has_place t.windows && nat_lt t.next_window SERIALS) (Windows Full)
    ∷ must (is_title title) (Windows BadTitle)
    ∷ []

-- a new window, which gets the lowest free number
abbrev pub new_window : Tables → ℕ → ℕ → ℕ → List ℕ → Window
new_window t rows columns keep title = record {
  serial = t.next_window;
  number = unwrap_or (free_number t.windows) 0;
  title = title;
  rows = rows;
  columns = columns;
  keep = keep;
  writing = [];
}

abbrev pub opens : Tables → UserId → Window → Deed
opens t user w =
    acting (record t { windows = t.windows ++ w ∷ []; next_window = t.next_window + 1 })
    (act.Opened user w.serial ∷ [])

-- the client after its terminal got another size: what the terminal shows is no longer known; if a
-- region would be too small, only the focused one stays
abbrev pub resized : ℕ → ℕ → Client → Client
resized rows columns c = record c {
  rows = rows;
  columns = columns;
  delivered = [];
  drawn = None;
  layout = if has_room c.layout.shape rows columns then c.layout else kept_alone c.layout;
}

-- ---- output

-- output of a window's program: it is written to the window, and the window's terminal may answer
abbrev pub outputs : Tables → Window → List ℕ → Deed
outputs t w bytes =
    record (writes t w (written.Output bytes)) {
      effects = input_of w.serial (reads (terminal_of w) bytes).reports;
    }
