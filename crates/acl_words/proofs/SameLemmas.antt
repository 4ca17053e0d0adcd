-- What the tests of equality answer: names that the test finds equal are equal.
use Rattle.std.proofs.Common.{◌≡◌, ◌∙◌, ℕ, Bool, true, false, ap, sym, refl, List}
use Rattle.std.proofs.lemmas.Slice.Eq.{bytes_eq-Decides}
use Rattle.acl_words.specs.Same.{same_user}
use Rattle.acl_words.specs.declared.user_id.UserId.{UserId}

-- names that the test finds equal are equal
pub same_user-true : (u v : UserId) → same_user u v ≡ true → u ≡ v
same_user-true u v h = ap {A = List ℕ} {B = UserId} (λ l. record { name = l }) ((bytes_eq-Decides u.name v.name).0 h)

pub same_user-refl : (u : UserId) → same_user u u ≡ true
same_user-refl u = (bytes_eq-Decides u.name u.name).1 refl

pub same_user-sym : (u v : UserId) → same_user u v ≡ same_user v u
same_user-sym u v = by (same_user u v) (same_user v u) refl refl
  where
    by : (c d : Bool) → same_user u v ≡ c → same_user v u ≡ d → c ≡ d
    by true true e f = refl
    by false false e f = refl
    by true false e f = sym (sym f ∙ (λ i. same_user v (same_user-true u v e i)) ∙ same_user-refl v)
    by false true e f = sym e ∙ (λ i. same_user u (same_user-true v u f i)) ∙ same_user-refl u
