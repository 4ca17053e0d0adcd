-- What is checked before something is done. The checks are made in this order; if one fails, its
-- refusal is the answer, and nothing is done.
use Rattle.std.specs.Prelude.{ℕ, Bool, false, List, [], ◌∷◌, ◌++◌, Option, Some, None, if◌then◌else◌}
use Rattle.std.specs.Option.{option_map, is_some}
use Rattle.acl.specs.declared.user_id.UserId.{UserId}
use Rattle.acl.specs.declared.bits.Bit.TheVariants.{Write, Execute}
use Rattle.acl.specs.declared.act.Object.TheVariants as object
use Rattle.writelock.specs.LockTable.{stops_nobody_but}
use Rattle.command_lang.specs.declared.command.Command.{Command}
use Rattle.command_lang.specs.Names.{name_of}
use Rattle.session_model.specs.declared.refusal.Check.{Check}
use Rattle.session_model.specs.declared.refusal.Check.TheVariants.{Right as right, Unlocked as unlocked, Must as must}
use Rattle.command_lang.specs.declared.needs.Needs.{Needs}
use Rattle.session_model.specs.declared.refusal.Refusal.{Refusal}
use Rattle.session_model.specs.declared.refusal.Refusal.TheVariants.{NotMultiuser, NoWindow}
use Rattle.session_model.specs.declared.refusal.Verdict.{Verdict}
use Rattle.session_model.specs.declared.refusal.Verdict.TheVariants.{Right, Lock}
use Rattle.session_model.specs.Tables.{Window, Tables}
use Rattle.session_model.specs.Rights.{may_in, holder_in}
use Rattle.session_model.specs.Denials.{entry_denial, lock_denial}
use Rattle.session_model.specs.Lines.{Caller}
use Rattle.command_lang.specs.Needs.{needs}

-- whether a check passes
abbrev pub passes : Tables → Check → Bool
passes t (right user bit object) = may_in t user bit object
passes t (unlocked user window) = stops_nobody_but user (holder_in t window)
passes t (must fact refusal) = fact

-- the verdict that is noted of a check: only bits and locks have one
abbrev pub verdict : Tables → Check → List Verdict
verdict t (right user bit object) = Right user bit object (may_in t user bit object) ∷ []
verdict t (unlocked user window) = Lock user window (holder_in t window) ∷ []
verdict t (must fact refusal) = []

-- the refusal if the check fails
abbrev pub refusal_of : Tables → Check → Refusal
refusal_of t (right user bit object) = entry_denial t user bit object
refusal_of t (unlocked user window) = lock_denial t window (holder_in t window)
refusal_of t (must fact r) = r

-- the verdicts of checks, up to the first that fails
abbrev pub verdicts : Tables → List Check → List Verdict
verdicts t [] = []
verdicts t (c ∷ checks) = verdict t c ++ (if passes t c then verdicts t checks else [])

-- the refusal of the first check that fails
abbrev pub first_fault : Tables → List Check → Option Refusal
first_fault t [] = None
first_fault t (c ∷ checks) = if passes t c then first_fault t checks else Some (refusal_of t c)

-- ---- the checks of a command

-- these checks, if they are needed
abbrev pub where_needed : Bool → List Check → List Check
where_needed needed checks = if needed then checks else []

-- x on the window, then w on it, then its lock, as far as each is needed
abbrev pub window_checks : UserId → Needs → Option ℕ → List Check
window_checks user n None = must false NoWindow ∷ []
window_checks user n (Some w) =
    right user Execute (object.Window w)
    ∷ (where_needed n.write (right user Write (object.Window w) ∷ [])
    ++ where_needed n.lock (unlocked user w ∷ []))

abbrev pub checks_by : Tables → Caller → Needs → List Check
checks_by t k n =
    where_needed n.multiuser (must t.is_multiuser NotMultiuser ∷ [])
    ++ (where_needed n.client (must (is_some k.client) NoWindow ∷ [])
    ++ where_needed n.window
    (window_checks k.user n (option_map (λ (w : Window). w.serial) k.window)))

-- the checks of a command: x on the command, and then what it needs
abbrev pub checks : Tables → Caller → Command → List Check
checks t k c = right k.user Execute (object.Command (name_of c)) ∷ checks_by t k (needs c)

-- ---- typed bytes

-- the checks of typed bytes: there is a window in focus, w on it, and its lock
abbrev pub typing_checks : UserId → Option Window → List Check
typing_checks user None = must false NoWindow ∷ []
typing_checks user (Some w) =
    right user Write (object.Window w.serial) ∷ unlocked user w.serial ∷ []
