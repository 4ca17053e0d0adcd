-- A state that stands for a history stands for it followed by the acts that the state follows.
use Rattle.trail_setup.proofs.Vocabulary.{◌≡◌, ◌∷◌, ◌++◌, [], ℕ, List, Bool, true, false, not, refl, sym, subst, ◌==◌}
use Rattle.trail_setup.proofs.Vocabulary.{◌∙◌, arith, if◌then◌else◌, unwrap_or, Some, None, cond, filter}
use Rattle.trail_setup.proofs.Vocabulary.{AllByRecursion, nat_tests, Act, UserId, History, is_open, SetupState, Stands}
use Rattle.acl.specs.declared.act.Act.TheVariants as act
use Rattle.trail_setup.specs.Keeping.{StatesStand, windows_after}

eq_sym : (m n : ℕ) → (m == n) ≡ (n == m)
eq_sym m n = grind (arith, nat_tests)

open_more : (by : UserId) (w v : ℕ) (h : History) → is_open h v ≡ true → is_open (act.Opened by w ∷ h) v ≡ true
open_more by w v h is = at (w == v)
  where
    at : (b : Bool) → unwrap_or (if b then Some true else None) (is_open h v) ≡ true
    at true = refl
    at false = is

open_self : (by : UserId) (w : ℕ) (h : History) → is_open (act.Opened by w ∷ h) w ≡ true
open_self by w h = at (w == w) (grind (arith, nat_tests))
  where
    at : (b : Bool) → b ≡ true → unwrap_or (if b then Some true else None) (is_open h w) ≡ true
    at true e = refl
    at false e = absurd (let wrong : false ≡ true = e in cc)

open_apart : (w v : ℕ) (h : History) → not (v == w) ≡ true → is_open h v ≡ true
    → is_open (act.Closed w ∷ h) v ≡ true
open_apart w v h apart is =
    subst (λ b. unwrap_or (if b then Some false else None) (is_open h v) ≡ true) (eq_sym v w) (at (v == w) apart)
  where
    at : (b : Bool) → not b ≡ true → unwrap_or (if b then Some false else None) (is_open h v) ≡ true
    at true e = absurd (let wrong : false ≡ true = e in cc)
    at false e = is

all_more : {X : Type 0} (P Q : X → Type 0) (xs : List X) (x : X) → ((y : X) → P y → Q y) → AllByRecursion P xs → Q x
    → AllByRecursion Q (xs ++ x ∷ [])
all_more P Q [] x step all last = (last, tt)
all_more P Q (y ∷ xs) x step all last = (step y all.0, all_more P Q xs x step all.1 last)

all_filtered : {X : Type 0} (P Q : X → Type 0) (p : X → Bool) (xs : List X) → ((y : X) → p y ≡ true → P y → Q y)
    → AllByRecursion P xs → AllByRecursion Q (filter p xs)
all_filtered P Q p [] step all = tt
all_filtered P Q p (y ∷ xs) step all = at (p y) refl (all_filtered P Q p xs step all.1)
  where
    at : (b : Bool) → p y ≡ b → AllByRecursion Q (filter p xs)
        → AllByRecursion Q (cond b (y ∷ filter p xs) (filter p xs))
    at true e below = (step y e all.0, below)
    at false e below = below

windows_open : (a : Act) (h : History) (rows : List (ℕ × UserId)) → AllByRecursion (λ w. is_open h w.0 ≡ true) rows
    → AllByRecursion (λ w. is_open (a ∷ h) w.0 ≡ true) (windows_after a rows)
windows_open (act.Opened by w) h rows all =
    all_more (λ row. is_open h row.0 ≡ true) (λ row. is_open (act.Opened by w ∷ h) row.0 ≡ true) rows (w, by)
    (λ row is. open_more by w row.0 h is) all (open_self by w h)
windows_open (act.Closed w) h rows all =
    all_filtered (λ row. is_open h row.0 ≡ true) (λ row. is_open (act.Closed w ∷ h) row.0 ≡ true)
    (λ row. not (row.0 == w)) rows (λ row apart is. open_apart w row.0 h apart is) all
windows_open a h rows all = all

pub states_stand : StatesStand
states_stand [] old new edition owner h follows can stands =
    subst (λ (s : SetupState). Stands s edition owner h) (sym follows) stands
states_stand (a ∷ acts) old new edition owner h follows can stands =
    states_stand acts follows.0 new edition owner (a ∷ h) follows.2 can.1 (
      follows.1.entries edition owner h stands.0 can.0,
      subst (λ (rows : List (ℕ × UserId)). AllByRecursion (λ w. is_open (a ∷ h) w.0 ≡ true) rows)
          (sym follows.1.windows) (windows_open a h old.windows.items stands.1),
    )
