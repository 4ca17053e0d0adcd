-- What the entries of a trace say of the window in a client's focus.
use Rattle.std.specs.Prelude.{◌≡◌, ℕ, Bool, false, ◌==◌, List, [], ◌∷◌, Option, Some, None, Ok, if◌then◌else◌}
use Rattle.std.specs.Option.{option_or}
use Rattle.acl.specs.declared.user_id.UserId.{UserId}
use Rattle.acl.specs.declared.act.Act.{Act}
use Rattle.acl.specs.declared.act.Act.TheVariants as act
use Rattle.session_model.specs.Trace.{EventValue, Attach, Keys, Reply, Entry, Trace}
use Rattle.session_model.specs.Tables.{Client, client_at, focused}
use Rattle.session_model.specs.Run.{IsRun, tables_of}

-- the user who enters a window by these acts, and the window; the last one counts
abbrev pub entered_by : List Act → Option (UserId × ℕ)
entered_by [] = None
entered_by (act.Entered user window ∷ acts) = Some (user, window)
entered_by (_ ∷ acts) = entered_by acts

-- whether a step is a client's own: the client attached by it, or gave keys
abbrev pub is_own_step : EventValue → Reply → ℕ → Bool
is_own_step (Attach user rows columns) (Ok done) client = done.made == client
is_own_step (Keys at bytes) reply client = at == client
is_own_step event reply client = false

abbrev pub entered_in : EventValue → Reply → List Act → ℕ → Option (UserId × ℕ)
entered_in event reply acts client =
    if is_own_step event reply client then entered_by acts else None

-- the window that a client's own steps entered last, and its user
abbrev pub last_entered : List Entry → ℕ → Option (UserId × ℕ)
last_entered [] client = None
last_entered (e ∷ past) client =
    option_or (entered_in e.event e.reply e.acts client) (last_entered past client)

-- the window in a client's focus, if there is one, is the one that its user entered last by the
-- client's own steps
abbrev pub FocusIsEntered : Type 0
FocusIsEntered = (h : Trace) → IsRun h → (client : ℕ) (c : Client) →
    client_at (tables_of h) client ≡ Some c → (window : ℕ) → focused c ≡ Some window →
    last_entered h.entries client ≡ Some (c.user, window)
