-- Checks that were made.
use Rattle.std.specs.Prelude.{ℕ, ◌≡◌, ◌⊎◌, ◌++◌, true, false, List, [], ◌∷◌, Option, Some, None, Result, Ok, Err}
use Rattle.std.specs.Prelude.{if◌then◌else◌, Bool, nat_lt, ◌&&◌, length}
use Rattle.std.specs.Option.{option_map}
use Rattle.acl.specs.declared.user_id.UserId.{UserId}
use Rattle.acl.specs.declared.bits.Bit.TheVariants.{Write, Execute}
use Rattle.acl.specs.declared.act.Object.TheVariants as object
use Rattle.acl.specs.History.{there}
use Rattle.session_model.specs.declared.refusal.Check.{Check}
use Rattle.session_model.specs.declared.refusal.Check.TheVariants.{Right, Unlocked, Must}
use Rattle.session_model.specs.declared.event.TheConstants.{CLIENTS, SERIALS}
use Rattle.session_model.specs.declared.refusal.Refusal.{Refusal}
use Rattle.session_model.specs.declared.refusal.Refusal.TheVariants.{NoMemory, NoWindow}
use Rattle.session_model.specs.declared.refusal.Verdict.{Verdict}
use Rattle.session_model.specs.Tables.{Window, Tables}
use Rattle.session_model.specs.Checks.{verdicts, first_fault}
use Rattle.session_state.specs.declared.state.Caller.{Caller}
use Rattle.session_state.specs.Doing.{caller_in}

-- all checks pass, and their verdicts come after those before
pub record Passed (t : Tables) (cs : List Check) (before after : List Verdict) : Type 0 where
  pub none : first_fault t cs ≡ None
  pub noted : after ≡ before ++ verdicts t cs

-- the first check that fails is the answer, and the verdicts up to that one come after those before
pub record Failed
    (t : Tables) (cs : List Check) (r : Refusal) (before after : List Verdict)
    : Type 0 where
  pub first : first_fault t cs ≡ Some r
  pub noted : after ≡ before ++ verdicts t cs

-- the checks were made, or memory was refused
abbrev pub Checked : {X : Type 0} →
    Tables → List Check → Result X Refusal → List Verdict → List Verdict → Type 0
Checked t cs (Ok x) before after = Passed t cs before after
Checked t cs (Err r) before after = (r ≡ NoMemory) ⊎ Failed t cs r before after

-- a right is asked on a command, or on a window that is open
abbrev pub IsMade : Tables → Check → Type 0
IsMade t (Right user bit object) = there t.acts object ≡ true
IsMade t _ = Unit {0}

abbrev pub AllMade : Tables → List Check → Type 0
AllMade t [] = Unit {0}
AllMade t (c ∷ cs) = IsMade t c × AllMade t cs

-- the checks of a list that has gaps
abbrev pub listed : List (Option Check) → List Check
listed [] = []
listed (None ∷ cs) = listed cs
listed (Some c ∷ cs) = c ∷ listed cs

-- the serial of the window that a caller's command acts on
abbrev pub row_of_caller : Tables → Caller → Option ℕ
row_of_caller t k = option_map (λ (w : Window). w.serial) (caller_in t k).window

-- the check of x on a window, or the refusal if there is no window
abbrev pub access : UserId → Option ℕ → Check
access user None = Must false NoWindow
access user (Some w) = Right user Execute (object.Window w)

-- the check of w on a window, or the refusal if there is no window
abbrev pub writing : UserId → Option ℕ → Check
writing user None = Must false NoWindow
writing user (Some w) = Right user Write (object.Window w)

abbrev pub writing_on : UserId → Option ℕ → Option Check
writing_on user window = option_map (λ w. Right user Write (object.Window w)) window

-- the check of a window's lock, if there is a window
abbrev pub lock_on : UserId → Option ℕ → Option Check
lock_on user window = option_map (λ w. Unlocked user w) window

-- a check, if it is needed
abbrev pub only_if : Bool → Option Check → Option Check
only_if needed check = if needed then check else None

-- there is a place and a serial for one more client
abbrev pub has_seat : Tables → Bool
has_seat t = nat_lt (length t.clients) CLIENTS && nat_lt t.next_client SERIALS
