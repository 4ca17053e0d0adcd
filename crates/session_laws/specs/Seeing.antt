-- What a client's page depends on.
use Rattle.std.specs.Prelude.{◌≡◌, Bool, true, false, List, [], map}
use Rattle.acl.specs.declared.user_id.UserId.{UserId}
use Rattle.acl.specs.declared.bits.Bit.TheVariants.{Read}
use Rattle.acl.specs.declared.act.Object.TheVariants as object
use Rattle.session_model.specs.Tables.{Window, Client, Tables}
use Rattle.session_model.specs.Rights.{may_in}
use Rattle.session_model.specs.Granted.{granted_view}

-- a window, if it may be read; else only its serial and its number
abbrev pub seen_if : Bool → Window → Window
seen_if true w = w
seen_if false w = record w { title = []; rows = 0; columns = 0; keep = 0; writing = [] }

abbrev pub seen_by : Tables → UserId → Window → Window
seen_by t user w = seen_if (may_in t user Read (object.Window w.serial)) w

-- two sets of windows that differ only in what the client's user may not read give the user the
-- same page: title, size and contents of such a window don't show
abbrev pub PagesShowWhatIsRead : Type 0
PagesShowWhatIsRead =
    (t : Tables) (c : Client) (windows : List Window) →
    map (seen_by t c.user) windows ≡ map (seen_by t c.user) t.windows →
    granted_view (record t { windows = windows }) c ≡ granted_view t c
