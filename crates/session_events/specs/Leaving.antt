-- Which users leave which windows at the end of a step.
use Rattle.std.specs.Prelude.{ℕ, ◌≡◌, Bool, ◌&&◌, ◌||◌, List, [], ◌∷◌, ◌++◌, Option, Some, None, if◌then◌else◌, map}
use Rattle.std.specs.List.{list_any}
use Rattle.acl.specs.declared.user_id.UserId.{UserId}
use Rattle.acl.specs.declared.act.Act.{Act}
use Rattle.acl.specs.declared.act.Act.TheVariants.{Left}
use Rattle.acl.specs.Same.{same_user}
use Rattle.session_model.specs.Tables as model
use Rattle.session_model.specs.Tables.{Tables, focused, is_window}
use Rattle.session_model.specs.Deeds.{Deed}
use Rattle.session_model.specs.Outcomes.{left_acts, finished, done}
use Rattle.session_state.specs.declared.client.Client.{Client}
use Rattle.session_state.specs.Moves.{in_focus}
use Rattle.session_state.specs.declared.state.StepOutput.{StepOutput}
use Rattle.session_state.specs.declared.state.State.{State}
use Rattle.session_state.specs.Stands.{Stands}
use Rattle.session_state.specs.Doing.{did}
use Rattle.session_events.specs.declared.focuses.Focus.{Focus}

-- what each client has in focus
abbrev pub focus_by : UserId → Option ℕ → Focus
focus_by user window = record { user = user; window = window }

abbrev pub focus_in : model.Client → Focus
focus_in c = focus_by c.user (focused c)

abbrev pub focuses_of : List model.Client → List Focus
focuses_of clients = map focus_in clients

-- what each client has in focus, from the rows of the code
abbrev pub focus_now : Client → Focus
focus_now c = focus_by c.user (in_focus c)

-- ---- users who have left

-- whether a focus is the user's, and at the window
abbrev pub looks_at : UserId → ℕ → Focus → Bool
looks_at user window f = same_user f.user user && is_window window f.window

abbrev pub shows_now : UserId → ℕ → Client → Bool
shows_now user window c = same_user c.user user && is_window window (in_focus c)

-- the window that a user has left, unless a later focus was at it too, or a client shows it now
abbrev pub left_window : UserId → Option ℕ → List Focus → List Client → Option ℕ
left_window user None rest now = None
left_window user (Some w) rest now =
    if list_any (looks_at user w) rest || list_any (shows_now user w) now then None else Some w

abbrev pub leaving : UserId → Option ℕ → List Act
leaving user None = []
leaving user (Some w) = Left user w ∷ []

abbrev pub all_left : List Focus → List Client → List Act
all_left [] now = []
all_left (f ∷ before) now =
    leaving f.user (left_window f.user f.window before now) ++ all_left before now

-- ---- a step's end

-- the tables once a deed is done and users have left windows: those of the step's outcome, whatever was
-- checked or answered
abbrev pub ended : Tables → Deed → Tables
ended t d = (finished t [] done d).tables

-- the state stands for them, and only the acts of those who left come after those before
pub record HasLeft (t : Tables) (d : Deed) (new : State) (before after : StepOutput) : Type 0 where
  pub stands : Stands (ended t d) new
  pub acts : after.acts.items ≡ before.acts.items ++ left_acts t.clients d.tables.clients
  pub effects : after.effects.items ≡ before.effects.items

-- so it is after every deed, from all tables that had these focuses
abbrev pub Leaves : List Focus → State → State → StepOutput → StepOutput → Type 0
Leaves focuses old new before after =
    (t : Tables) (d : Deed) → focuses ≡ focuses_of t.clients → Stands (did t d) old
    → HasLeft t d new before after
