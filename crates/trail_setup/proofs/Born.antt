-- What a user gets on a window that is opened under closed masks.
use Rattle.trail_setup.proofs.Vocabulary.{◌≡◌, ◌∙◌, ◌&&◌, ℕ, Bool, true, false, Some, None, ap, sym, unwrap_or}
use Rattle.trail_setup.proofs.Vocabulary.{if◌then◌else◌, rules, ◌==◌, list_all, false≢true, Window, decided, has}
use Rattle.trail_setup.proofs.Vocabulary.{is_known, mask, same_user}
use Rattle.hub.proofs.Folding.{all_holds}
use Rattle.trail_setup.specs.Closing.{BornClosed}

right_of : (a b : Bool) → (a && b) ≡ true → b ≡ true
right_of true b e = e
right_of false b e = absurd (false≢true e)

same_number : (w : ℕ) → (w == w) ≡ true
same_number w = search rules

pub born_closed : BornClosed
born_closed owner h now by u bit windows w other known masked e =
    all_holds (λ old. has owner h u bit (Window old)) windows
    (right_of (mask h by u bit) (list_all (λ old. has owner h u bit (Window old)) windows)
    (sym masked ∙ (sym given ∙ e)))
  where
    given : unwrap_or
        (if w == w then (if same_user by u then Some true
        else decided (is_known owner now u) (mask now by u bit)) else None)
        (has owner now u bit (Window w)) ≡ mask now by u bit
    given =
        ap (λ b. unwrap_or
        (if b then (if same_user by u then Some true else decided (is_known owner now u) (mask now by u bit)) else None)
        (has owner now u bit (Window w))) (same_number w)
        ∙ (ap (λ b. unwrap_or (if b then Some true else decided (is_known owner now u) (mask now by u bit))
        (has owner now u bit (Window w))) other
        ∙ ap (λ b. unwrap_or (decided b (mask now by u bit)) (has owner now u bit (Window w))) known)
