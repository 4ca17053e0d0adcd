-- Checks pass in cut tables if they pass in these, and are refused alike.
use Rattle.session_laws.proofs.Vocabulary.{◌≡◌, ℕ, Bool, List, [], ◌∷◌, ◌++◌, Option, Some, None, refl, ap, ◌∙◌}
use Rattle.session_laws.proofs.Vocabulary.{if◌then◌else◌, option_map, UserId, Object, Execute, Order, name_of, Check}
use Rattle.session_laws.proofs.Vocabulary.{right, unlocked, must, Needs, EntryDenied, LockDenied, NotMultiuser}
use Rattle.session_laws.proofs.Vocabulary.{NoWindow, Tables, Window, leaders_in, holder_in, denied_on, lock_denial}
use Rattle.session_laws.proofs.Vocabulary.{Caller, needs, passes, verdict, refusal_of, verdicts, first_fault}
use Rattle.session_laws.proofs.Vocabulary.{where_needed, window_checks, checks, typing_checks}
use Rattle.std.specs.Option.{is_some}
use Rattle.acl.specs.declared.act.Object.TheVariants as object
use Rattle.session_model.specs.declared.refusal.Denied.TheVariants as denied
use Rattle.session_laws.proofs.Cutting.{cut, cut_window, cut_caller}
use Rattle.session_laws.proofs.Finding.{number_cut}

module _ (shown : ℕ → Bool) (seeing : UserId → Bool) where
  abbrev f : Window → Window
  f = cut_window shown seeing

  denied_cut : (t : Tables) (o : Object) → denied_on (cut shown seeing t) o ≡ denied_on t o
  denied_cut t (object.Window s) = ap (λ n. denied.Window s n) (number_cut shown seeing t s)
  denied_cut t (object.Command c) = refl

  lock_cut : (t : Tables) (w : ℕ) (o : Option UserId) → lock_denial (cut shown seeing t) w o ≡ lock_denial t w o
  lock_cut t w None = refl
  lock_cut t w (Some user) = ap (λ n. LockDenied (record { serial = w; number = n; holder = user }))
      (number_cut shown seeing t w)

  refusal_cut : (t : Tables) (c : Check) → refusal_of (cut shown seeing t) c ≡ refusal_of t c
  refusal_cut t (right user bit o) = ap
      (λ on. EntryDenied (record { user = user; bit = bit; on = on; leaders = leaders_in t user })) (denied_cut t o)
  refusal_cut t (unlocked user w) = lock_cut t w (holder_in t w)
  refusal_cut t (must fact r) = refl

  passes_cut : (t : Tables) (c : Check) → passes (cut shown seeing t) c ≡ passes t c
  passes_cut t c = refl

  verdict_cut : (t : Tables) (c : Check) → verdict (cut shown seeing t) c ≡ verdict t c
  verdict_cut t c = refl

  pub fault_cut : (t : Tables) (cs : List Check) → first_fault (cut shown seeing t) cs ≡ first_fault t cs
  fault_cut t [] = refl
  fault_cut t (c ∷ cs) =
      ap (λ b. if b then first_fault (cut shown seeing t) cs else Some (refusal_of (cut shown seeing t) c))
      (passes_cut t c)
      ∙ ap (λ o. if passes t c then o else Some (refusal_of (cut shown seeing t) c)) (fault_cut t cs)
      ∙ ap (λ r. if passes t c then first_fault t cs else Some r) (refusal_cut t c)

  pub verdicts_cut : (t : Tables) (cs : List Check) → verdicts (cut shown seeing t) cs ≡ verdicts t cs
  verdicts_cut t [] = refl
  verdicts_cut t (c ∷ cs) =
      ap (λ vs. vs ++ (if passes (cut shown seeing t) c then verdicts (cut shown seeing t) cs else []))
      (verdict_cut t c)
      ∙ ap (λ b. verdict t c ++ (if b then verdicts (cut shown seeing t) cs else [])) (passes_cut t c)
      ∙ ap (λ vs. verdict t c ++ (if passes t c then vs else [])) (verdicts_cut t cs)

  serial_cut : (o : Option Window)
      → option_map (λ (w : Window). w.serial) (option_map f o) ≡ option_map (λ (w : Window). w.serial) o
  serial_cut None = refl
  serial_cut (Some w) = refl

  pub given_serial_cut : (o : Option Window)
      → option_map (λ (w : Window). w.serial) (option_map f o) ≡ option_map (λ (w : Window). w.serial) o
  given_serial_cut o = serial_cut o

  pub checks_cut : (t : Tables) (k : Caller) (c : Order)
      → checks (cut shown seeing t) (cut_caller shown seeing k) c ≡ checks t k c
  checks_cut t k c =
      let n : Needs = needs c in
      ap (λ o. right k.user Execute (object.Command (name_of c)) ∷
      (where_needed n.multiuser (must t.is_multiuser NotMultiuser ∷ [])
      ++ (where_needed n.client (must (is_some k.client) NoWindow ∷ []) ++ where_needed n.window
      (window_checks k.user n o)))) (serial_cut k.window)

  pub typing_checks_cut : (user : UserId) (o : Option Window)
      → typing_checks user (option_map f o) ≡ typing_checks user o
  typing_checks_cut user None = refl
  typing_checks_cut user (Some w) = refl
