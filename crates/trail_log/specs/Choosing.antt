-- Which entries are asked for: between two times, of a user, and of a window.
use Rattle.std.specs.Prelude.{ℕ, Bool, true, false, ◌==◌, ◌&&◌, ◌||◌, nat_le, if◌then◌else◌}
use Rattle.std.specs.Prelude.{List, [], ◌∷◌, Option, Some, None}
use Rattle.std.specs.List.{list_any}
use Rattle.std.specs.Str.{bytes_eq}
use Rattle.acl.specs.declared.act.Act.{Act}
use Rattle.acl.specs.declared.act.Act.TheVariants.{Set, Opened, Closed, Entered, Left, Mode}
use Rattle.acl.specs.declared.act.Object.TheVariants as object
use Rattle.acl.specs.declared.user_id.UserId.{UserId}
use Rattle.acl.specs.Same.{same_user}
use Rattle.session.specs.refusal.Verdict.{Verdict}
use Rattle.hub.specs.Clients.{user_in}
use Rattle.hub.specs.kept.Kept.{Kept}
use Rattle.hub.specs.kept.Kept.TheVariants as kept
use Rattle.hub.specs.Trails.{Entry}
use Rattle.trail_lines.specs.Entries.{Said}
use Rattle.trail_log.specs.declared.choice.Choice.{Choice}
use Rattle.trail_log.specs.declared.choice.Wanted.{Wanted}
use Rattle.trail_log.specs.declared.choice.Wanted.TheVariants as wanted
use Rattle.trail_log.specs.declared.titles.Titled.{Titled}
use Rattle.trail_log.specs.Checks.{window_of}
use Rattle.trail_log.specs.Naming.{Names, title_in}

-- the user who gives an event: nobody if a window's program ended
abbrev pub giver : List (ℕ × UserId) → Kept → Option UserId
giver clients (kept.Attach user rows columns) = Some user
giver clients (kept.Detach client) = user_in clients client
giver clients (kept.Keys client) = user_in clients client
giver clients (kept.Command user window line) = Some user
giver clients (kept.Open user rows columns keep title) = Some user
giver clients (kept.Closed window) = None

abbrev pub is_user : Option UserId → Option UserId → Bool
is_user None given = true
is_user (Some user) None = false
is_user (Some user) (Some by) = same_user user by

-- the window that an act is of
abbrev pub window_of_act : Act → Option ℕ
window_of_act (Set user bit (object.Window w) value) = Some w
window_of_act (Opened user w) = Some w
window_of_act (Closed w) = Some w
window_of_act (Entered user w) = Some w
window_of_act (Left user w) = Some w
window_of_act (Mode user w mode) = Some w
window_of_act a = None

abbrev pub has_title : List ℕ → Option (List ℕ) → Bool
has_title title None = false
has_title title (Some other) = bytes_eq other title

-- a window of this serial, or of this title as it is before the entry
abbrev pub is_wanted : List Titled → Wanted → Option ℕ → Bool
is_wanted titles (wanted.Serial serial) None = false
is_wanted titles (wanted.Serial serial) (Some w) = w == serial
is_wanted titles (wanted.Title title) None = false
is_wanted titles (wanted.Title title) (Some w) = has_title title (title_in titles w)

-- a window that is opened has its own title already
abbrev pub opens : Wanted → Kept → Bool
opens (wanted.Title title) (kept.Open user rows columns keep named) = bytes_eq named title
opens asked event = false

abbrev pub closes : List Titled → Wanted → Kept → Bool
closes titles asked (kept.Closed w) = is_wanted titles asked (Some w)
closes titles asked event = false

abbrev pub checks : List Titled → Wanted → List Verdict → Bool
checks titles asked verdicts = list_any (λ v. is_wanted titles asked (window_of v)) verdicts

abbrev pub acts_on : List Titled → Wanted → List Act → Bool
acts_on titles asked acts = list_any (λ a. is_wanted titles asked (window_of_act a)) acts

-- an entry is of a window if its event, a check or an act is
abbrev pub is_of_window : List Titled → Entry → Wanted → Bool
is_of_window titles e asked =
    (opens asked e.event || closes titles asked e.event)
    || (checks titles asked e.verdicts || acts_on titles asked e.acts)

abbrev pub is_of_wanted : List Titled → Entry → Option Wanted → Bool
is_of_wanted titles e None = true
is_of_wanted titles e (Some asked) = is_of_window titles e asked

abbrev pub is_chosen : Choice → Names → Said → Bool
is_chosen c n x =
    nat_le c.since x.1
    && (nat_le x.1 c.until
    && (is_user c.user (giver n.0 x.2.event) && is_of_wanted n.1 x.2 c.window))
