-- If a command's checks have passed, its window is there, and its user may write there if the command needs
-- that.
use Rattle.session_commands.proofs.Vocabulary.{◌≡◌, ℕ, Bool, true, false, List, [], ◌∷◌, ◌++◌, Option, Some, None, refl}
use Rattle.session_commands.proofs.Vocabulary.{ap, sym, subst, ◌∙◌, if◌then◌else◌, option_map, option_and_then, UserId}
use Rattle.session_commands.proofs.Vocabulary.{Command, Refusal, NoWindow, Tables, Window, window_at, needs}
use Rattle.session_commands.proofs.Vocabulary.{first_fault, checks, serial_is, Caller, caller_in}
use Rattle.std.specs.Option.{is_some}
use Rattle.acl.specs.declared.bits.Bit.TheVariants.{Write, Execute}
use Rattle.acl.specs.declared.act.Object.TheVariants as object
use Rattle.command_lang.specs.Names.{name_of}
use Rattle.session_model.specs.declared.refusal.Check.{Check}
use Rattle.session_model.specs.declared.refusal.Check.TheVariants.{Right as right, Must as must, Unlocked as unlocked}
use Rattle.command_lang.specs.declared.needs.Needs.{Needs}
use Rattle.session_model.specs.declared.refusal.Refusal.TheVariants.{NotMultiuser}
use Rattle.session_model.specs.Rights.{may_in}
use Rattle.session_model.specs.Lines as model
use Rattle.session_model.specs.Checks.{passes, refusal_of, checks_by, window_checks, where_needed}

module _ (t : Tables) where
  pub behind : (cs ds : List Check) → first_fault t (cs ++ ds) ≡ None
      → first_fault t ds ≡ None
  behind [] ds is = is
  behind (c ∷ cs) ds is = on (passes t c) is (behind cs ds) where
    on : (b : Bool) → (if b then first_fault t (cs ++ ds) else Some (refusal_of t c)) ≡ None
        → (first_fault t (cs ++ ds) ≡ None → first_fault t ds ≡ None)
        → first_fault t ds ≡ None
    on true is rest = rest is
    on false is rest = absurd (cc (is))

  first_passes : (b : Bool) (o : Option Refusal) (r : Refusal)
      → (if b then o else Some r) ≡ None → b ≡ true
  first_passes true o r is = refl
  first_passes false o r is = absurd (cc (is))

  -- the checks of a command's window
  window_passed : (k : model.Caller) (c : Command) → first_fault t (checks t k c) ≡ None
      → first_fault t (where_needed (needs c).window
      (window_checks k.user (needs c) (option_map (λ (w : Window). w.serial) k.window))) ≡ None
  window_passed k c is =
      let n : Needs = needs c in
      let first : Check = right k.user Execute (object.Command (name_of c)) in
      let last : List Check =
      where_needed n.window
      (window_checks k.user n (option_map (λ (w : Window). w.serial) k.window)) in
      let for_client : List Check =
      where_needed n.client (must (is_some k.client) NoWindow ∷ []) in
      let for_many : List Check =
      where_needed n.multiuser (must t.is_multiuser NotMultiuser ∷ []) in
      behind for_client last
      (behind for_many (for_client ++ last) (behind (first ∷ []) (checks_by t k n) is))

  there_by : (b : Bool) (user : UserId) (n : Needs) (o : Option Window) → b ≡ true
      → first_fault t (where_needed b
      (window_checks user n (option_map (λ (w : Window). w.serial) o))) ≡ None
      → (w : Window) × (o ≡ Some w)
  there_by true user n None needed is = absurd (cc (is))
  there_by true user n (Some w) needed is = (w, refl)
  there_by false user n o needed is = absurd (cc (needed))

  writable_by : (b : Bool) (user : UserId) (s : ℕ) (rest : List Check) → b ≡ true
      → first_fault t (where_needed b (right user Write (object.Window s) ∷ []) ++ rest) ≡ None
      → may_in t user Write (object.Window s) ≡ true
  writable_by true user s rest needed is =
      first_passes (may_in t user Write (object.Window s)) _ _ is
  writable_by false user s rest needed is = absurd (cc (needed))

  checked_by : (b : Bool) (user : UserId) (n : Needs) (w : Window) → b ≡ true → n.write ≡ true
      → first_fault t (where_needed b (window_checks user n (Some w.serial))) ≡ None
      → may_in t user Write (object.Window w.serial) ≡ true
  checked_by true user n w needed writes is =
      let locked : List Check = where_needed n.lock (unlocked user w.serial ∷ []) in
      let written : List Check =
      where_needed n.write (right user Write (object.Window w.serial) ∷ []) in
      writable_by n.write user w.serial locked writes
      (behind (right user Execute (object.Window w.serial) ∷ []) (written ++ locked) is)
  checked_by false user n w needed writes is = absurd (cc (needed))

-- a caller's window: its serial, and its row
pub record IsOn (t : Tables) (k : Caller) (s : ℕ) (w : Window) : Type 0 where
  pub row : window_at t s ≡ Some w
  pub serial : w.serial ≡ s
  pub given : (caller_in t k).window ≡ Some w

-- a command that needs a window has one
pub acted_on : (t : Tables) (k : Caller) (c : Command) (s : ℕ) → k.window ≡ Some s
    → (needs c).window ≡ true → first_fault t (checks t (caller_in t k) c) ≡ None
    → (w : Window) × IsOn t k s w
acted_on t k c s at needed is =
    let found =
    there_by t (needs c).window k.user (needs c) (caller_in t k).window needed
    (window_passed t (caller_in t k) c is) in
    let w : Window = found.0 in
    let row : window_at t s ≡ Some w =
    ap (λ o. option_and_then (window_at t) o) (sym at) ∙ found.1 in (
      w,
      record {
        row = row;
        serial = serial_is (λ (v : Window). v.serial) t.windows s w row;
        given = found.1;
      },
    )

-- if the command needs w on it, its user has that
pub may_write : (t : Tables) (k : Caller) (c : Command) (s : ℕ) (w : Window) → IsOn t k s w
    → (needs c).window ≡ true → (needs c).write ≡ true
    → first_fault t (checks t (caller_in t k) c) ≡ None
    → may_in t k.user Write (object.Window s) ≡ true
may_write t k c s w on needed writes is =
    subst (λ n. may_in t k.user Write (object.Window n) ≡ true) on.serial
    (checked_by t (needs c).window k.user (needs c) w needed writes
    (subst (λ o. first_fault t (where_needed (needs c).window
    (window_checks k.user (needs c) (option_map (λ (v : Window). v.serial) o))) ≡ None)
    on.given (window_passed t (caller_in t k) c is)))
