-- Answers that are given only if something is there or nothing is wrong are alike.
use Rattle.session_alike.proofs.Vocabulary.{◌≡◌, Bool, true, false, List, ℕ, Option, Some, None, Ok, refl, sym, subst}
use Rattle.session_alike.proofs.Vocabulary.{History, BothOrNone, Refusal, Answer, Deed, given, refused_if, unless}
use Rattle.session_alike.proofs.Vocabulary.{Renaming, refusal_as, option_map}
use Rattle.session_alike.proofs.Changing.{AnswersAlike, declined}

itself_one : {A : Type 0} (o : Option A) → BothOrNone (λ (x y : A). y ≡ x) o o
itself_one None = tt
itself_one (Some x) = refl

pub same_one : {A : Type 0} (o p : Option A) → p ≡ o → BothOrNone (λ (x y : A). y ≡ x) o p
same_one o p same = subst (BothOrNone (λ x y. y ≡ x) o) (sym same) (itself_one o)

pub mapped_one : {A B : Type 0} (h : A → B) (o : Option A) (p : Option B) → p ≡ option_map h o
    → BothOrNone (λ (x : A) (y : B). y ≡ h x) o p
mapped_one h None p same = subst (BothOrNone (λ x y. y ≡ h x) None) (sym same) tt
mapped_one h (Some x) p same = subst (BothOrNone (λ x y. y ≡ h x) (Some x)) (sym same) refl

module _ (n : Renaming) (T : List ℕ → List ℕ → Type 0) (h g : History) where
  pub given_alike : {A B : Type 0} (R : A → B → Type 0) (o : Option A) (p : Option B) (r : Refusal)
      (F : A → Answer) (G : B → Answer) → BothOrNone R o p
      → ((x : A) (y : B) → R x y → AnswersAlike n T h g (F x) (G y))
      → AnswersAlike n T h g (given o r F) (given p (refusal_as n r) G)
  unfolding given
  given_alike R None None r F G m same = declined refl
  given_alike R (Some x) (Some y) r F G m same = same x y m
  given_alike R o p r F G m same = absurd m

  unless_by : {F : Type 0} (of : F → Refusal) → ((f : F) → of f ≡ refusal_as n (of f)) → (o : Option F) (d e : Deed)
      → AnswersAlike n T h g (Ok d) (Ok e) → AnswersAlike n T h g (unless of o d) (unless of o e)
  unfolding unless
  unless_by of plain None d e alike = alike
  unless_by of plain (Some f) d e alike = declined (plain f)

  pub unless_alike : {F : Type 0} (of : F → Refusal) → ((f : F) → of f ≡ refusal_as n (of f)) → (o p : Option F)
      → p ≡ o → (d e : Deed) → AnswersAlike n T h g (Ok d) (Ok e)
      → AnswersAlike n T h g (unless of o d) (unless of p e)
  unless_alike of plain o p same d e alike =
      subst (λ x. AnswersAlike n T h g (unless of o d) (unless of x e)) (sym same) (unless_by of plain o d e alike)

  refused_by : (b : Bool) (r : Refusal) (d e : Deed) → AnswersAlike n T h g (Ok d) (Ok e)
      → AnswersAlike n T h g (refused_if b r d) (refused_if b (refusal_as n r) e)
  unfolding refused_if
  refused_by true r d e alike = declined refl
  refused_by false r d e alike = alike

  pub refused_alike : (b c : Bool) → c ≡ b → (r : Refusal) (d e : Deed) → AnswersAlike n T h g (Ok d) (Ok e)
      → AnswersAlike n T h g (refused_if b r d) (refused_if c (refusal_as n r) e)
  refused_alike b c same r d e alike =
      subst (λ x. AnswersAlike n T h g (refused_if b r d) (refused_if x (refusal_as n r) e)) (sym same)
      (refused_by b r d e alike)
