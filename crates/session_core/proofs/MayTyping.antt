-- Whether a user may type into a window, by the tables that a state stands for.
use Rattle.session_core.proofs.Vocabulary.{◌≡◌, ◌∙◌, ℕ, Bool, true, false, Option, Some, None, refl, ap, sym, ◌&&◌}
use Rattle.session_core.proofs.Vocabulary.{option_copied, Write, UserId, WindowStands, serial_is, passes, Right}
use Rattle.session_core.proofs.Vocabulary.{Unlocked, AreFit, Tables, window_at}
use Rattle.std.proofs.Common.{Bor}
use Rattle.std.specs.List.{list_all}
use Rattle.std.specs.Option.{is_some}
use Rattle.std.proofs.lemmas.Bool.{false≢true}
use Rattle.acl.specs.declared.act.Object.TheVariants as object
use Rattle.acl.specs.History.{is_open}
use Rattle.windows.specs.declared.window.Window.{Window}
use Rattle.windows_model.specs.Matched.{BothOrNone}
use Rattle.session_model.specs.Checks.{typing_checks}
use Rattle.session_model.specs.Tables as model
use Rattle.session_core.specs.MayType.{may_type}

and_true : (b : Bool) → (b && true) ≡ b
and_true true = refl
and_true false = refl

pub copied_some : {A : Type 0} (o : Option (Bor A)) → is_some o ≡ true → is_some (option_copied o) ≡ true
copied_some None e = absurd (false≢true e)
copied_some (Some r) e = refl

module _ (t : Tables) (user : UserId) (window : ℕ) where
  pub none_there : (found : Option Window) → BothOrNone WindowStands (window_at t window) found
      → is_some found ≡ false → false ≡ may_type t user window
  none_there found both none = on (window_at t window) refl found both none where
    on : (o : Option model.Window) → window_at t window ≡ o → (p : Option Window) → BothOrNone WindowStands o p
        → is_some p ≡ false → false ≡ may_type t user window
    on None at p both none = sym (ap (λ (x : Option model.Window). list_all (passes t) (typing_checks user x)) at)
    on (Some w) at (Some v) both none = absurd (false≢true (sym none))
    on (Some w) at None both none = absurd both

  pub one_there : (found : Option Window) → BothOrNone WindowStands (window_at t window) found
      → is_some found ≡ true
      → ((passes t (Right user Write (object.Window window)) && passes t (Unlocked user window))
      ≡ may_type t user window) × (AreFit t → is_open t.acts window ≡ true)
  one_there found both some = on (window_at t window) refl found both some where
    on : (o : Option model.Window) → window_at t window ≡ o → (p : Option Window) → BothOrNone WindowStands o p
        → is_some p ≡ true
        → ((passes t (Right user Write (object.Window window)) && passes t (Unlocked user window))
        ≡ may_type t user window) × (AreFit t → is_open t.acts window ≡ true)
    on None at None both some = absurd (false≢true some)
    on None at (Some v) both some = absurd both
    on (Some w) at p both some =
        let serial : w.serial ≡ window = serial_is (λ (v : model.Window). v.serial) t.windows window w at in (
          sym (ap (λ (x : Option model.Window). list_all (passes t) (typing_checks user x)) at
              ∙ ap (λ n. passes t (Right user Write (object.Window n)) && (passes t (Unlocked user n) && true)) serial
              ∙ ap (λ b. passes t (Right user Write (object.Window window)) && b)
              (and_true (passes t (Unlocked user window)))),
          λ fit. fit.agree.open_is window ∙ ap is_some at,
        )
