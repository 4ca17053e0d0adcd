-- Steps one after another.
use Rattle.session.proofs.Vocabulary.{◌≡◌, List, [], ◌∷◌, ◌++◌, refl, ap, subst, append_assoc, EventValue, Entry, Trace}
use Rattle.session.proofs.Vocabulary.{with_step, with_steps, Serves, untaken_keys}

pub with_steps-append : (h : Trace) (xs ys : List Entry) → with_steps h (xs ++ ys) ≡ with_steps (with_steps h xs) ys
with_steps-append h [] ys = refl
with_steps-append h (x ∷ xs) ys = with_steps-append (with_step h x) xs ys

-- events that come after are left
pub serves_before : (events : List EventValue) (steps : List Entry) (left more : List EventValue)
    → Serves events steps left → Serves (events ++ more) steps (left ++ more)
serves_before events [] left more s = ap (λ es. es ++ more) s
serves_before [] (e ∷ steps) left more s = absurd s
serves_before (event ∷ events) (e ∷ steps) left more s = (
  s.0,
  subst (λ es. Serves es steps (left ++ more)) (append_assoc (untaken_keys e.event e.reply) events more)
      (serves_before (untaken_keys e.event e.reply ++ events) steps left more s.1),
)

pub serves_on : (events : List EventValue) (xs ys : List Entry) (mid left : List EventValue) → Serves events xs mid
    → Serves mid ys left → Serves events (xs ++ ys) left
serves_on events [] ys mid left s t = subst (λ es. Serves es ys left) s t
serves_on [] (x ∷ xs) ys mid left s t = absurd s
serves_on (event ∷ events) (x ∷ xs) ys mid left s t =
    (s.0, serves_on (untaken_keys x.event x.reply ++ events) xs ys mid left s.1 t)
