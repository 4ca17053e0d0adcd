-- A window that a command finds is one of the table's windows, at its own serial.
use Rattle.session_commands.proofs.Vocabulary.{◌≡◌, ℕ, Bool, true, false, List, [], ◌∷◌, Option, Some, None, refl, ap}
use Rattle.session_commands.proofs.Vocabulary.{sym, subst, ◌∙◌, is_some, filter, if◌then◌else◌, ◌==◌, find, nat_lt}
use Rattle.session_commands.proofs.Vocabulary.{IfSome, AllByRecursion, option_or, option_and_then, Window, Tables}
use Rattle.session_commands.proofs.Vocabulary.{row_of, window_at, lower, lowest, with_number, window_named}
use Rattle.session_commands.proofs.Vocabulary.{window_after, window_before, BothOrNone, same_number, serial_is}
use Rattle.session_commands.proofs.Vocabulary.{WindowStands}
use Rattle.session_model.specs.Naming.{higher, highest}
use Rattle.windows.specs.declared.window.Window as code

-- a fact of each row is one of the row that is found
module _ (P : Window → Type 0) where
  abbrev pub Each : List Window → Type 0
  Each ws = AllByRecursion P ws

  abbrev pub Of : Option Window → Type 0
  Of o = IfSome o P

  one_of : (b : Bool) (o p : Option Window) → Of o → Of p → Of (if b then o else p)
  one_of true o p x y = x
  one_of false o p x y = y

  first_of : (o p : Option Window) → Of o → Of p → Of (option_or o p)
  first_of (Some w) p x y = x
  first_of None p x y = y

  then_of : {A : Type 0} (f : A → Option Window) (o : Option A) → ((a : A) → Of (f a)) → Of (option_and_then f o)
  then_of f None all = tt
  then_of f (Some a) all = all a

  kept_by : (b : Bool) (w : Window) (ws : List Window) → P w → Each ws → Each (if b then w ∷ ws else ws)
  kept_by true w ws p all = (p, all)
  kept_by false w ws p all = all

  of_filter : (test : Window → Bool) (ws : List Window) → Each ws → Each (filter test ws)
  of_filter test [] all = tt
  of_filter test (w ∷ ws) all = kept_by (test w) w (filter test ws) all.0 (of_filter test ws all.1)

  of_find : (test : Window → Bool) (ws : List Window) → Each ws → Of (find test ws)
  of_find test [] all = tt
  of_find test (w ∷ ws) all = one_of (test w) (Some w) (find test ws) all.0 (of_find test ws all.1)

  of_lower : (w : Window) (o : Option Window) → P w → Of o → Of (lower w o)
  of_lower w None p x = p
  of_lower w (Some v) p x = one_of (nat_lt v.number w.number) (Some v) (Some w) x p

  of_higher : (w : Window) (o : Option Window) → P w → Of o → Of (higher w o)
  of_higher w None p x = p
  of_higher w (Some v) p x = one_of (nat_lt w.number v.number) (Some v) (Some w) x p

  of_lowest : (ws : List Window) → Each ws → Of (lowest ws)
  of_lowest [] all = tt
  of_lowest (w ∷ ws) all = of_lower w (lowest ws) all.0 (of_lowest ws all.1)

  of_highest : (ws : List Window) → Each ws → Of (highest ws)
  of_highest [] all = tt
  of_highest (w ∷ ws) all = of_higher w (highest ws) all.0 (of_highest ws all.1)

  pub of_named : (ws : List Window) (word : List ℕ) → Each ws → Of (window_named ws word)
  of_named ws word all = first_of _ _ (then_of (with_number ws) _ (λ n. of_find _ ws all))
      (of_lowest _ (of_filter _ ws all))

  pub of_after : (ws : List Window) (from : Option Window) → Each ws → Of (window_after ws from)
  of_after ws None all = of_lowest ws all
  of_after ws (Some w) all = first_of _ _ (of_lowest _ (of_filter _ ws all)) (of_lowest ws all)

  pub of_before : (ws : List Window) (from : Option Window) → Each ws → Of (window_before ws from)
  of_before ws None all = of_highest ws all
  of_before ws (Some w) all = first_of _ _ (of_highest _ (of_filter _ ws all)) (of_highest ws all)

-- ---- each window of a table stands at its serial

abbrev pub serial_of : Window → ℕ
serial_of w = w.serial

abbrev pub StandsAt : List Window → Window → Type 0
StandsAt ws w = is_some (row_of serial_of ws w.serial) ≡ true

at_first : (b : Bool) (w : Window) (o : Option Window) → is_some o ≡ true → is_some (if b then Some w else o) ≡ true
at_first true w o is = refl
at_first false w o is = is

found_first : (b : Bool) (w : Window) (o : Option Window) → b ≡ true → is_some (if b then Some w else o) ≡ true
found_first true w o is = refl
found_first false w o is = absurd (cc (is))

stand_on : (w : Window) (ws vs : List Window) → AllByRecursion (StandsAt ws) vs → AllByRecursion (StandsAt (w ∷ ws)) vs
stand_on w ws [] all = tt
stand_on w ws (v ∷ vs) all =
    (at_first (w.serial == v.serial) w (row_of serial_of ws v.serial) all.0, stand_on w ws vs all.1)

pub stand_there : (ws : List Window) → AllByRecursion (StandsAt ws) ws
stand_there [] = tt
stand_there (w ∷ ws) = (
  found_first (w.serial == w.serial) w (row_of serial_of ws w.serial) (same_number w.serial),
  stand_on w ws ws
      (stand_there ws),
)

pub of_some : (P : Window → Type 0) (o : Option Window) (w : Window) → o ≡ Some w → IfSome o P → P w
of_some P o w is x = subst (λ p. IfSome p P) is x

-- ---- a window that is looked for by its serial, if there is one to look for

at_serial : (ws : List Window) (s : ℕ) (o : Option Window) → row_of serial_of ws s ≡ o → IfSome o (StandsAt ws)
at_serial ws s None at = tt
at_serial ws s (Some w) at = ap is_some (ap (row_of serial_of ws) (serial_is serial_of ws s w at) ∙ at)

pub of_row : (t : Tables) (o : Option ℕ) → IfSome (option_and_then (window_at t) o) (StandsAt t.windows)
of_row t None = tt
of_row t (Some s) = at_serial t.windows s (window_at t s) refl

pub found_row : (t : Tables) (o p : Option ℕ) (found : Option code.Window)
    → BothOrNone WindowStands (option_and_then (window_at t) p) found → o ≡ p
    → BothOrNone WindowStands (option_and_then (window_at t) o) found
found_row t o p found both is = subst (λ q. BothOrNone WindowStands (option_and_then (window_at t) q) found) (sym is)
    both
