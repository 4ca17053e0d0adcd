-- The output that is hidden from a user: that of windows that others opened and that no later draw
-- shows the user.
use Rattle.std.specs.Prelude.{ℕ, Bool, false, not, ◌==◌, ◌&&◌, ◌||◌, List, [], ◌∷◌, ◌++◌}
use Rattle.std.specs.Prelude.{Option, Some, None, if◌then◌else◌}
use Rattle.std.specs.List.{list_any}
use Rattle.acl.specs.declared.user_id.UserId.{UserId}
use Rattle.acl.specs.declared.bits.Bit.TheVariants.{Read}
use Rattle.acl.specs.declared.act.Act.{Act}
use Rattle.acl.specs.declared.act.Act.TheVariants as act
use Rattle.acl.specs.declared.act.Object.TheVariants as object
use Rattle.acl.specs.Same.{same_user}
use Rattle.regions.specs.declared.layout.Shown.{Shown}
use Rattle.session_model.specs.Trace.{EventValue, Output, Draw, Entry}
use Rattle.session_model.specs.Tables.{Client, Tables, client_at, is_window}
use Rattle.session_model.specs.Rights.{may_in}
use Rattle.session_model.specs.Run.{tables_from}

-- whether it is the user's opening of this window
abbrev pub is_opening : UserId → ℕ → Act → Bool
is_opening user window (act.Opened by w) = same_user by user && w == window
is_opening user window _ = false

-- whether the user opened the window, by these acts
abbrev pub has_opened : Tables → UserId → ℕ → Bool
has_opened t user window = list_any (is_opening user window) t.acts

-- whether a region of the client's page shows the window, and its user may read that
abbrev pub is_shown : Tables → Client → ℕ → Bool
is_shown t c window =
    list_any (λ (s : Shown). is_window window s.window) c.layout.shown
    && may_in t c.user Read (object.Window window)

-- the windows that a draw of this client shows the user
abbrev pub shown_to : Tables → UserId → Option Client → ℕ → Bool
shown_to t user None window = false
shown_to t user (Some c) window = same_user c.user user && is_shown t c window

-- these windows, and those that the event's draw shows the user
abbrev pub with_shown : Tables → UserId → EventValue → (ℕ → Bool) → ℕ → Bool
with_shown t user (Draw client) seen =
    λ window. seen window || shown_to t user (client_at t client) window
with_shown t user event seen = seen

-- whether it is output of another window than these
abbrev pub is_hidden : (ℕ → Bool) → EventValue → Bool
is_hidden seen (Output window bytes) = not (seen window)
is_hidden seen event = false

-- the events of a run from some tables, the newest first, without hidden output: that of windows that
-- are none of these and that no later draw shows the user
abbrev pub events_from : UserId → (ℕ → Bool) → Tables → List Entry → List EventValue
events_from user seen start [] = []
events_from user seen start (e ∷ past) =
    let t : Tables = tables_from start past in
    (if is_hidden seen e.event then [] else e.event ∷ [])
    ++ events_from user (with_shown t user e.event seen) start past

-- all events of a run without output that is hidden from the user: that of windows that the user didn't
-- open and that no later draw shows the user
abbrev pub unhidden : UserId → Tables → List Entry → List EventValue
unhidden user start run =
    events_from user (has_opened (tables_from start run) user) start run
