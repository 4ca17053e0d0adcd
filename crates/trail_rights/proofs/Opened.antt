-- The windows that are listed are those that are open.
use Rattle.trail_rights.proofs.Vocabulary.{◌≡◌, ◌∙◌, ℕ, Bool, true, false, not, ◌&&◌, ◌||◌, List, [], ◌∷◌, ◌++◌, refl}
use Rattle.trail_rights.proofs.Vocabulary.{ap, sym, cond, ◌==◌, unwrap_or, list_any, eqb-true, false≢true, decided}
use Rattle.trail_rights.proofs.Vocabulary.{is_open, without_window, windows_of, OpenAreListed}
use Rattle.acl.specs.declared.act.Act.TheVariants as act

abbrev lists : ℕ → List ℕ → Bool
lists w windows = list_any (λ x. x == w) windows

kept : (c d r s : Bool) → s ≡ (not d && r) → (c ≡ true → d ≡ true → ⊥) → (c || s) ≡ (not d && (c || r))
kept false d r s is never = is
kept true false r s is never = refl
kept true true r s is never = absurd (never refl refl)

-- a window that is left out, or not
one : (b c d r : Bool) (x w : ℕ) (rest : List ℕ) → (x == w) ≡ c → lists w rest ≡ (not d && r) → (b ≡ true → c ≡ d)
    → (c ≡ true → d ≡ true → b ≡ true)
    → lists w (cond (not b) (x ∷ rest) rest) ≡ (not d && (c || r))
one true c true r x w rest e is same both = is
one true c false r x w rest e is same both = is ∙ ap (λ k. k || r) (sym (same refl))
one false c d r x w rest e is same both = ap (λ k. k || lists w rest) e
    ∙ kept c d r (lists w rest) is (λ p q. absurd (false≢true (both p q)))

none_of : (b : Bool) → false ≡ (not b && false)
none_of true = refl
none_of false = refl

without : (v w : ℕ) (windows : List ℕ) → lists w (without_window v windows) ≡ (not (v == w) && lists w windows)
without v w [] = none_of (v == w)
without v w (x ∷ windows) =
    one (x == v) (x == w) (v == w) (lists w windows) x w (without_window v windows) refl (without v w windows)
    (λ p. ap (λ n. n == w) (eqb-true x v p))
    (λ p q. ap (λ n. x == n) (eqb-true v w q) ∙ p)

at_end : (w v : ℕ) (windows : List ℕ) → lists w (windows ++ v ∷ []) ≡ (lists w windows || ((v == w) || false))
at_end w v [] = refl
at_end w v (x ∷ windows) = ap (λ k. (x == w) || k) (at_end w v windows)
    ∙ grouped (x == w) (lists w windows) ((v == w) || false)
  where
    grouped : (a b c : Bool) → (a || (b || c)) ≡ ((a || b) || c)
    grouped true b c = refl
    grouped false b c = refl

or_false : (r : Bool) → (r || false) ≡ r
or_false true = refl
or_false false = refl

opened : (b r : Bool) → ((not b && r) || (b || false)) ≡ unwrap_or (decided b true) r
opened true r = refl
opened false r = or_false r

closed : (b r : Bool) → (not b && r) ≡ unwrap_or (decided b false) r
closed true r = refl
closed false r = refl

pub open_listed : OpenAreListed
open_listed [] w = refl
open_listed (act.Opened by v ∷ h) w =
    at_end w v (without_window v (windows_of h))
    ∙ ap (λ k. k || ((v == w) || false)) (without v w (windows_of h))
    ∙ ap (λ r. (not (v == w) && r) || ((v == w) || false)) (open_listed h w)
    ∙ opened (v == w) (is_open h w)
open_listed (act.Closed v ∷ h) w = without v w (windows_of h) ∙ ap (λ r. not (v == w) && r) (open_listed h w)
    ∙ closed (v == w) (is_open h w)
open_listed (act.Known u ∷ h) w = open_listed h w
open_listed (act.Gone u ∷ h) w = open_listed h w
open_listed (act.Set u b o value ∷ h) w = open_listed h w
open_listed (act.Grouped u leader ∷ h) w = open_listed h w
open_listed (act.Masked by u b value ∷ h) w = open_listed h w
open_listed (act.Preset kind b value ∷ h) w = open_listed h w
open_listed (act.Attached c u ∷ h) w = open_listed h w
open_listed (act.Parted c ∷ h) w = open_listed h w
open_listed (act.Entered u v ∷ h) w = open_listed h w
open_listed (act.Left u v ∷ h) w = open_listed h w
open_listed (act.Mode by v mode ∷ h) w = open_listed h w
open_listed (act.Default mode ∷ h) w = open_listed h w
