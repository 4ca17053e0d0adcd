-- What refusals and lists say.
use Rattle.std.specs.Prelude.{ℕ, List, [], ◌∷◌, ◌++◌, Option, Some, None, if◌then◌else◌, codes, decimal, map, nat_lt}
use Rattle.std.specs.List.{flat_map}
use Rattle.acl.specs.declared.user_id.UserId.{UserId}
use Rattle.acl.specs.declared.bits.Bit.{Bit}
use Rattle.acl.specs.declared.bits.Bit.TheVariants as bit
use Rattle.acl.specs.declared.act.Object.TheVariants as object
use Rattle.acl.specs.Names.{name_of}
use Rattle.acl.specs.Commands.{number_of_fault}
use Rattle.command_lang.specs.Names.{name_text}
use Rattle.command_lang.specs.FaultNumbers.{number_of}
use Rattle.regions.specs.Faults as regions
pub use Rattle.windows_model.specs.Faults.{windows_number}
use Rattle.session_model.specs.declared.refusal.Denied.{Denied}
use Rattle.session_model.specs.declared.refusal.Denied.TheVariants as denied
use Rattle.session_model.specs.declared.refusal.EntryDenied.{EntryDenied as EntryDenial}
use Rattle.session_model.specs.declared.refusal.LockDenied.{LockDenied as LockDenial}
use Rattle.session_model.specs.declared.refusal.Refusal.{Refusal}
use Rattle.session_model.specs.declared.refusal.Refusal.TheVariants as refusal
use Rattle.session_model.specs.Tables.{Window, Client, Tables, window_at, focused, is_window}
use Rattle.session_model.specs.Rights.{may_in}

-- ---- refusals

abbrev pub letter : Bit → List ℕ
letter bit.Read = codes "r"
letter bit.Write = codes "w"
letter bit.Execute = codes "x"

-- the object of a denial; a window is named by its number
abbrev pub denied_text : Denied → List ℕ
denied_text (denied.Window serial number) = codes "window " ++ decimal number
denied_text (denied.Command c) = name_text c

-- `bob -w`
abbrev pub missing_text : UserId → Bit → List ℕ
missing_text user b = name_of user ++ (codes " -" ++ letter b)

abbrev pub leader_text : Bit → UserId → List ℕ
leader_text b leader = codes "; leader " ++ missing_text leader b

-- `denied: w on window 2: entry bob -w; leader ann -w`
abbrev pub entry_text : EntryDenial → List ℕ
entry_text d =
    codes "denied: " ++ (letter d.bit ++ (codes " on " ++ (denied_text d.on
    ++ (codes ": entry " ++ (missing_text d.user d.bit
    ++ flat_map (leader_text d.bit) d.leaders)))))

-- `denied: window 2 locked by eve`
abbrev pub lock_text : LockDenial → List ℕ
lock_text d =
    codes "denied: window " ++ (decimal d.number ++ (codes " locked by " ++ name_of d.holder))

abbrev pub text_of : Refusal → List ℕ
text_of (refusal.EntryDenied d) = entry_text d
text_of (refusal.LockDenied d) = lock_text d
text_of refusal.NotMultiuser = codes "not in multiuser mode"
text_of refusal.UnknownUser = codes "unknown user"
text_of refusal.NoWindow = codes "no window"
text_of refusal.TooManyClients = codes "too many clients"
text_of refusal.NoMemory = codes "out of memory"
text_of refusal.BadSize = codes "bad size"
text_of (refusal.Acl f) = codes "acl: " ++ decimal (number_of_fault f)
text_of (refusal.Windows f) = codes "windows: " ++ decimal (windows_number f)
text_of (refusal.Line f) =
    codes "line: " ++ (decimal (number_of f.kind) ++ (codes " at " ++ decimal f.place))
text_of (refusal.Regions f) = codes "regions: " ++ decimal (regions.number f)

-- ---- lists

-- the items, each with the separator before it
abbrev pub behind : List ℕ → List (List ℕ) → List ℕ
behind separator [] = []
behind separator (item ∷ items) = separator ++ (item ++ behind separator items)

-- items with the separator between them
abbrev pub separated : List ℕ → List (List ℕ) → List ℕ
separated separator [] = []
separated separator (item ∷ items) = item ++ behind separator items

-- the windows by rising numbers
abbrev pub by_number : Window → List Window → List Window
by_number w [] = w ∷ []
by_number w (v ∷ windows) =
    if nat_lt w.number v.number then w ∷ v ∷ windows else v ∷ by_number w windows

abbrev pub in_order : List Window → List Window
in_order [] = []
in_order (w ∷ windows) = by_number w (in_order windows)

-- a window's item: its number, `*` if it is in focus, a blank, and its title, or `?` if that isn't
-- readable
abbrev pub window_item : Tables → UserId → Option ℕ → Window → List ℕ
window_item t user focus w =
    decimal w.number
    ++ ((if is_window w.serial focus then codes "* " else codes " ")
    ++ (if may_in t user bit.Read (object.Window w.serial) then w.title else codes "?"))

abbrev pub windows_text : Tables → UserId → Option ℕ → List ℕ
windows_text t user focus =
    separated (codes "  ") (map (window_item t user focus) (in_order t.windows))

abbrev pub number_text : Option Window → List ℕ
number_text None = codes "-"
number_text (Some w) = decimal w.number

abbrev pub focus_text : Tables → Option ℕ → List ℕ
focus_text t None = codes "-"
focus_text t (Some serial) = number_text (window_at t serial)

-- a client's item: its serial, a blank, its user, a blank, and the number of the window in focus or
-- `-`
abbrev pub client_item : Tables → Client → List ℕ
client_item t c =
    decimal c.serial ++ (codes " " ++ (name_of c.user ++ (codes " " ++ focus_text t (focused c))))

abbrev pub clients_text : Tables → List ℕ
clients_text t = separated (codes "  ") (map (client_item t) t.clients)

-- `bob: ann,eve`, or `bob: none`
abbrev pub leaders_text : List UserId → List ℕ
leaders_text [] = codes "none"
leaders_text (leader ∷ leaders) = separated (codes ",") (map name_of (leader ∷ leaders))

abbrev pub group_text : UserId → List UserId → List ℕ
group_text user leaders = name_of user ++ (codes ": " ++ leaders_text leaders)
