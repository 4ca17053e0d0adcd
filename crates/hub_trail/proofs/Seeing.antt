-- Each verdict is on an object that is there.
use Rattle.hub_trail.proofs.Vocabulary.{◌≡◌, ℕ, Bool, true, false, List, [], ◌∷◌, Option, Some, None, refl}
use Rattle.hub_trail.proofs.Vocabulary.{if◌then◌else◌, AllByRecursion, option_map, UserId, Write, Check, Needs, Verdict}
use Rattle.hub_trail.proofs.Vocabulary.{Tables, Window, Client, focused, focused_window, Caller, needs, passes}
use Rattle.hub_trail.proofs.Vocabulary.{verdicts, checks, typing_checks, where_needed, window_checks, typing_verdicts}
use Rattle.hub_trail.proofs.Vocabulary.{IsThere, at_there, all_append, is_on_there}
use Rattle.acl.specs.declared.act.Object.TheVariants as object
use Rattle.command_lang.specs.declared.command.Command.{Command}
use Rattle.session.specs.refusal.Check.TheVariants.{Right as right, Unlocked as unlocked}
use Rattle.session.specs.Checks.{verdict}
use Rattle.hub_trail.proofs.Naming.{OpenIs, there_open}

-- ---- the verdicts of checks

all_if : {A : Type 0} (P : A → Type 0) (b : Bool) (xs : List A) → AllByRecursion P xs
    → AllByRecursion P (if b then xs else [])
all_if P true xs all = all
all_if P false xs all = tt

abbrev pub SeeThere : Tables → List Verdict → Type 0
SeeThere t vs = AllByRecursion (λ v. is_on_there t.acts v ≡ true) vs

abbrev pub ChecksSee : Tables → List Check → Type 0
ChecksSee t cs = AllByRecursion (λ c. SeeThere t (verdict t c)) cs

pub verdicts_see : (t : Tables) (cs : List Check) → ChecksSee t cs → SeeThere t (verdicts t cs)
verdicts_see t [] all = tt
verdicts_see t (c ∷ cs) all =
    let See : Verdict → Type 0 = λ v. is_on_there t.acts v ≡ true in
    all_append See (verdict t c) (if passes t c then verdicts t cs else []) all.0
    (all_if See (passes t c) (verdicts t cs) (verdicts_see t cs all.1))

-- ---- commands and typed bytes

module _ (t : Tables) (agree : OpenIs t) where
  abbrev Sees : Check → Type 0
  Sees c = SeeThere t (verdict t c)

  window_sees : (user : UserId) (n : Needs) (o : Option Window) → ((w : Window) → o ≡ Some w → IsThere t.windows w)
      → ChecksSee t (window_checks user n (option_map (λ (w : Window). w.serial) o))
  window_sees user n None row = (tt, tt)
  window_sees user n (Some w) row =
      let here = there_open t agree w (row w refl) in (
        (here, tt),
        all_append Sees (where_needed n.write (right user Write (object.Window w.serial) ∷ []))
            (where_needed n.lock (unlocked user w.serial ∷ []))
            (all_if Sees n.write (right user Write (object.Window w.serial) ∷ []) ((here, tt), tt))
            (all_if Sees n.lock (unlocked user w.serial ∷ []) ((refl, tt), tt)),
      )

  pub checks_see : (k : Caller) (c : Command) → ((w : Window) → k.window ≡ Some w → IsThere t.windows w)
      → ChecksSee t (checks t k c)
  checks_see k c row =
      let n : Needs = needs c in
      let last : List Check = where_needed n.window
      (window_checks k.user n (option_map (λ (w : Window). w.serial) k.window)) in (
        (refl, tt),
        all_append Sees (where_needed n.multiuser _) _ (all_if Sees n.multiuser _ (tt, tt))
            (all_append Sees (where_needed n.client _) last (all_if Sees n.client _ (tt, tt))
            (all_if Sees n.window _ (window_sees k.user n k.window row))),
      )

  typing_sees : (user : UserId) (o : Option Window) → ((w : Window) → o ≡ Some w → IsThere t.windows w)
      → ChecksSee t (typing_checks user o)
  typing_sees user None row = (tt, tt)
  typing_sees user (Some w) row = ((there_open t agree w (row w refl), tt), ((refl, tt), tt))

  pub typed_see : (c : Client) (bytes : List ℕ) → SeeThere t (typing_verdicts t c bytes)
  typed_see c [] = tt
  typed_see c (b ∷ bytes) = verdicts_see t (typing_checks c.user (focused_window t c))
      (typing_sees c.user (focused_window t c) (at_there t (focused c)))
