-- What an event does to a session's state, for all tables that the state stands for.
use Rattle.std.specs.Prelude.{ℕ, ◌≡◌, ◌∷◌, [], true, List, Option, Some, None, Result, Ok, Err, nat_lt, if◌then◌else◌}
use Rattle.acl.specs.declared.user_id.UserId.{UserId}
use Rattle.acl.specs.History.{History, is_open}
use Rattle.session_model.specs.declared.refusal.Check.TheVariants.{Must as must}
use Rattle.session_model.specs.declared.event.TheConstants.{SERIALS}
use Rattle.session_model.specs.declared.refusal.Refusal.{Refusal}
use Rattle.session_model.specs.declared.refusal.Refusal.TheVariants.{NoMemory, BadSize}
use Rattle.session_model.specs.Tables.{Window, Client, Tables, window_at, client_at, with_client}
use Rattle.session_model.specs.Checks.{first_fault}
use Rattle.session_model.specs.Deeds.{Deed, changing}
use Rattle.session_model.specs.Comings.{is_client_size, attach_checks, new_client, attaches}
use Rattle.session_model.specs.Comings.{open_checks, new_window, opens, resized, outputs}
use Rattle.session_state.specs.declared.state.StepOutput.{StepOutput}
use Rattle.session_state.specs.declared.state.State.{State}
use Rattle.session_state.specs.Stands.{Stands}
use Rattle.session_model.specs.Sound.{AreFit}
use Rattle.session_state.specs.Doing.{HasDone}

-- the next serial, unless all of them are given out
abbrev pub serial_from : ℕ → Option ℕ
serial_from next = if nat_lt next SERIALS then Some next else None

-- a window, if there is one, is open by these acts
abbrev pub IsOpenIn : History → Option ℕ → Type 0
IsOpenIn h None = Unit {0}
IsOpenIn h (Some window) = is_open h window ≡ true

-- an event's deed was done, and this is its answer; or it was refused for want of memory
abbrev pub Happens : {A : Type 0} →
    Tables → Deed → A → Result A Refusal → State → StepOutput → StepOutput → Type 0
Happens t d answer (Ok a) new before after = (a ≡ answer) × HasDone t d new before after
Happens t d answer (Err r) new before after = r ≡ NoMemory

-- if its checks have passed, a client attaches, and its serial is the answer
abbrev pub Attaches :
    UserId → ℕ → ℕ → State → Result ℕ Refusal → State → StepOutput → StepOutput → Type 0
Attaches user rows columns old result new before after =
    (t : Tables) → Stands t old → AreFit t
    → first_fault t (attach_checks t user rows columns) ≡ None
    → Happens t (attaches t (new_client t user rows columns)) t.next_client result new before after

-- if its checks have passed, a window opens, and its serial and its number are the answer
abbrev pub Opens : UserId → ℕ → ℕ → ℕ → List ℕ → State → Result (ℕ × ℕ) Refusal →
    State → StepOutput → StepOutput → Type 0
Opens user rows columns keep title old result new before after =
    (t : Tables) → Stands t old → AreFit t
    → first_fault t (open_checks t user rows columns keep title) ≡ None
    → let w : Window = new_window t rows columns keep title in
    Happens t (opens t user w) (w.serial, w.number) result new before after

-- if its check has passed, a client's page has another size
abbrev pub Resizes : ℕ → ℕ → ℕ → State → State → StepOutput → StepOutput → Type 0
Resizes client rows columns old new before after =
    (t : Tables) (c : Client) → Stands t old → AreFit t → client_at t client ≡ Some c
    → first_fault t (must (is_client_size rows columns) BadSize ∷ []) ≡ None
    → HasDone t (changing (with_client t (resized rows columns c))) new before after

-- the program of an open window writes
abbrev pub Outputs :
    ℕ → List ℕ → State → Result (Unit {0}) Refusal → State → StepOutput → StepOutput → Type 0
Outputs window bytes old result new before after =
    (t : Tables) (w : Window) → Stands t old → AreFit t → window_at t window ≡ Some w
    → Happens t (outputs t w bytes) (tt {0}) result new before after
