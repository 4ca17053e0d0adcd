-- Nobody leaves a window in a step that changes no focus.
use Rattle.session_core.proofs.Vocabulary.{◌≡◌, ℕ, Bool, true, false, List, [], ◌∷◌, Option, Some, None, refl, ap, ◌∙◌}
use Rattle.session_core.proofs.Vocabulary.{◌++◌, append-nil, ◌&&◌, ◌||◌, UserId, Act, Client, left_acts, if_true}
use Rattle.session_core.proofs.Vocabulary.{same_number}
use Rattle.acl.specs.declared.act.Act.TheVariants.{Left}
use Rattle.acl.proofs.StandsForLemmas.{same_user-refl}
use Rattle.session_model.specs.Tables.{focused, is_window, is_in_focus, shows}
use Rattle.session_model.specs.Outcomes.{left_acts_of}

or_true : (a b : Bool) → b ≡ true → (a || b) ≡ true
or_true true b is = refl
or_true false b is = is

-- a client shows what it has in focus
shows_own : (c : Client) (w : ℕ) → focused c ≡ Some w → shows c.user w c ≡ true
shows_own c w is =
    ap (λ (b : Bool). b && is_window w (focused c)) (same_user-refl c.user)
    ∙ ap (is_window w) is ∙ same_number w

-- a user who still sees a window doesn't leave it
pub none_left : (before after : List Client)
    → ((user : UserId) (w : ℕ) → is_in_focus before user w ≡ true → is_in_focus after user w ≡ true)
    → left_acts before after ≡ []
none_left [] after still = refl
none_left (c ∷ before) after still =
    ap (λ (acts : List Act). left_acts_of c (focused c) before after ++ acts)
    (none_left before after
    (λ user w is. still user w (or_true (shows user w c) (is_in_focus before user w) is)))
    ∙ append-nil (left_acts_of c (focused c) before after)
    ∙ one (focused c) refl where
      one : (o : Option ℕ) → focused c ≡ o → left_acts_of c o before after ≡ []
      one None is = refl
      one (Some w) is =
          if_true (is_in_focus before c.user w || is_in_focus after c.user w) [] (Left c.user w ∷ [])
          (or_true (is_in_focus before c.user w) (is_in_focus after c.user w)
          (still c.user w
          (ap (λ (b : Bool). b || is_in_focus before c.user w) (shows_own c w is))))
