-- Checks of sessions that are alike have the same verdicts, and fail for the same cause.
use Rattle.session_alike.proofs.Vocabulary.{◌≡◌, ℕ, Bool, true, false, List, [], ◌∷◌, ◌++◌, Option, Some, None, refl}
use Rattle.session_alike.proofs.Vocabulary.{ap, ◌∙◌, map, if◌then◌else◌, option_map, is_some, Object, Execute, Write}
use Rattle.session_alike.proofs.Vocabulary.{UserId, Order, BothOrNone, Check, must, right, unlocked, LockDenied}
use Rattle.session_alike.proofs.Vocabulary.{NotMultiuser, NoWindow, checks, checks_by, first_fault, passes, refusal_of}
use Rattle.session_alike.proofs.Vocabulary.{typing_checks, verdict, verdicts, where_needed, window_checks, denied_on}
use Rattle.session_alike.proofs.Vocabulary.{lock_denial, Caller, holder_in, Tables, Window, Renaming, denied_as}
use Rattle.session_alike.proofs.Vocabulary.{object_as, refusal_as, verdict_as, TablesAlike, WindowsAlike, if_as}
use Rattle.session_alike.proofs.Vocabulary.{map_append, read_one}
use Rattle.acl.specs.declared.act.Object.TheVariants as object
use Rattle.session_model.specs.declared.refusal.Denied.TheVariants as denied
use Rattle.session_alike.proofs.Finding.{holder_alike, leaders_alike, may_alike, number_alike}
use Rattle.command_lang.specs.declared.needs.Needs.{Needs}
use Rattle.command_lang.specs.Needs.{needs}
use Rattle.writelock.specs.LockTable.{stops_nobody_but}
use Rattle.session_model.specs.declared.refusal.Verdict.TheVariants.{Lock, Right}

abbrev pub check_as : Renaming → Check → Check
check_as n (right user bit o) = right user bit (object_as n o)
check_as n (unlocked user w) = unlocked user (n.window w)
check_as n (must fact r) = must fact (refusal_as n r)

-- the same user gives a command, by the same client, for the same window
pub record CallersAlike (n : Renaming) (k l : Caller) : Type 0 where
  pub user : l.user ≡ k.user
  pub client : l.client ≡ option_map n.client k.client
  pub window : BothOrNone (WindowsAlike n) k.window l.window

pub needed_as : {A B : Type 0} (f : A → B) (b : Bool) (xs : List A) (ys : List B) → ys ≡ map f xs
    → (if b then ys else []) ≡ map f (if b then xs else [])
needed_as f true xs ys same = same
needed_as f false xs ys same = refl

is_some_as : {A B : Type 0} (f : A → B) (o : Option A) → is_some (option_map f o) ≡ is_some o
is_some_as f None = refl
is_some_as f (Some x) = refl

module _ (n : Renaming) where
  pub serial_as : (o p : Option Window) → BothOrNone (WindowsAlike n) o p
      → option_map (λ (w : Window). w.serial) p ≡ option_map n.window (option_map (λ (w : Window). w.serial) o)
  serial_as o p m = read_one (WindowsAlike n) n.window (λ (w : Window). w.serial) (λ (w : Window). w.serial) o p
      (λ w v r. r.serial) m

  window_as : (user : UserId) (d : Needs) (o : Option ℕ)
      → window_checks user d (option_map n.window o) ≡ map (check_as n) (window_checks user d o)
  window_as user d None = refl
  window_as user d (Some w) =
      ap (λ cs. right user Execute (object.Window (n.window w)) ∷ cs)
      (map_append (check_as n) (where_needed d.write (right user Write (object.Window w) ∷ []))
      (where_needed d.lock (unlocked user w ∷ [])) _ _
      (needed_as (check_as n) d.write (right user Write (object.Window w) ∷ [])
      (right user Write (object.Window (n.window w)) ∷ []) refl)
      (needed_as (check_as n) d.lock (unlocked user w ∷ []) (unlocked user (n.window w) ∷ []) refl))

  pub typing_as : (user : UserId) (o p : Option Window) → BothOrNone (WindowsAlike n) o p
      → typing_checks user p ≡ map (check_as n) (typing_checks user o)
  typing_as user None None m = refl
  typing_as user (Some w) (Some v) m =
      ap (λ s. right user Write (object.Window s) ∷ unlocked user s ∷ []) m.serial
  typing_as user o p m = absurd m

  module _ (t u : Tables) (a : TablesAlike n t u) where
    denied_alike : (o : Object) → denied_on u (object_as n o) ≡ denied_as n (denied_on t o)
    denied_alike (object.Window w) = ap (λ m. denied.Window (n.window w) m) (number_alike n t u a w)
    denied_alike (object.Command c) = refl

    passes_alike : (c : Check) → passes u (check_as n c) ≡ passes t c
    passes_alike (right user bit o) = may_alike n t u a user bit o
    passes_alike (unlocked user w) = ap (stops_nobody_but user) (holder_alike n t u a w)
    passes_alike (must fact r) = refl

    verdict_alike : (c : Check) → verdict u (check_as n c) ≡ map (verdict_as n) (verdict t c)
    verdict_alike (right user bit o) = ap (λ b. Right user bit (object_as n o) b ∷ []) (may_alike n t u a user bit o)
    verdict_alike (unlocked user w) = ap (λ h. Lock user (n.window w) h ∷ []) (holder_alike n t u a w)
    verdict_alike (must fact r) = refl

    lock_alike : (w : ℕ) (held : Option UserId)
        → lock_denial u (n.window w) held ≡ refusal_as n (lock_denial t w held)
    lock_alike w None = refl
    lock_alike w (Some user) =
        ap (λ m. LockDenied (record { serial = n.window w; number = m; holder = user })) (number_alike n t u a w)

    refusal_alike : (c : Check) → refusal_of u (check_as n c) ≡ refusal_as n (refusal_of t c)
    refusal_alike (right user bit o) = cc (denied_alike o, leaders_alike n t u a user)
    refusal_alike (unlocked user w) = cc (holder_alike n t u a w, lock_alike w (holder_in t w))
    refusal_alike (must fact r) = refl

    pub verdicts_alike : (cs : List Check) → verdicts u (map (check_as n) cs) ≡ map (verdict_as n) (verdicts t cs)
    verdicts_alike [] = refl
    verdicts_alike (c ∷ cs) =
        map_append (verdict_as n) (verdict t c) (if passes t c then verdicts t cs else []) _ _ (verdict_alike c)
        (ap (λ b. if b then verdicts u (map (check_as n) cs) else []) (passes_alike c)
        ∙ needed_as (verdict_as n) (passes t c) (verdicts t cs) (verdicts u (map (check_as n) cs)) (verdicts_alike cs))

    pub fault_alike : (cs : List Check)
        → first_fault u (map (check_as n) cs) ≡ option_map (refusal_as n) (first_fault t cs)
    fault_alike [] = refl
    fault_alike (c ∷ cs) =
        let fault = if_as (option_map (refusal_as n)) (passes t c) (first_fault t cs) (Some (refusal_of t c)) in
        cc (passes_alike c, fault_alike cs, refusal_alike c, fault)

    -- ---- the checks of a command

    module _ (k l : Caller) (r : CallersAlike n k l) where
      by_alike : (d : Needs) → checks_by u l d ≡ map (check_as n) (checks_by t k d)
      by_alike d =
          map_append (check_as n) (where_needed d.multiuser (must t.is_multiuser NotMultiuser ∷ []))
          (where_needed d.client (must (is_some k.client) NoWindow ∷ []) ++ where_needed d.window
          (window_checks k.user d (option_map (λ (w : Window). w.serial) k.window))) _ _
          (needed_as (check_as n) d.multiuser (must t.is_multiuser NotMultiuser ∷ [])
          (must u.is_multiuser NotMultiuser ∷ [])
          (ap (λ b. must b NotMultiuser ∷ []) a.is_multiuser))
          (map_append (check_as n) (where_needed d.client (must (is_some k.client) NoWindow ∷ []))
          (where_needed d.window (window_checks k.user d (option_map (λ (w : Window). w.serial) k.window))) _ _
          (needed_as (check_as n) d.client (must (is_some k.client) NoWindow ∷ [])
          (must (is_some l.client) NoWindow ∷ [])
          (ap (λ b. must b NoWindow ∷ []) (ap is_some r.client ∙ is_some_as n.client k.client)))
          (needed_as (check_as n) d.window (window_checks k.user d (option_map (λ (w : Window). w.serial) k.window))
          (window_checks l.user d (option_map (λ (w : Window). w.serial) l.window))
          (ap (λ (v : UserId). window_checks v d (option_map (λ (w : Window). w.serial) l.window)) r.user
          ∙ ap (window_checks k.user d) (serial_as k.window l.window r.window)
          ∙ window_as k.user d (option_map (λ (w : Window). w.serial) k.window))))

      pub checks_alike : (c : Order) → checks u l c ≡ map (check_as n) (checks t k c)
      checks_alike c = cc (r.user, by_alike (needs c))
