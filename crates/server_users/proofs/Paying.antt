-- An account that is changed at the place where it is found.
use Rattle.server_users.proofs.Vocabulary.{◌≡◌, ℕ, Bool, true, false, List, Some, None, set, get_or, ap, sym, subst}
use Rattle.server_users.proofs.Vocabulary.{◌∙◌, arith, Option, unwrap_or, option_map, IfSome, IsTrue, same_user, UserId}
use Rattle.server_users.proofs.Vocabulary.{Account, MayPay, Purse, fresh, stands_at, account_of, IsFirst}
use Rattle.server_users.proofs.Places.{is_of, account_at, passes, set_own, set_other}

module _ (accounts : List Account) (u : UserId) (i : ℕ) (a : Account)
    (first : IsFirst (is_of u) accounts i) (is : a ≡ get_or accounts i a) where
  own_name : same_user a.user u ≡ true
  own_name = subst (λ b. same_user b.user u ≡ true) (sym is) (passes (is_of u) accounts i a first)

  -- its user has what was put there
  pub own_is : (new : Purse) → account_of (set accounts i (record { user = a.user; allowance = new })) u ≡ Some new
  own_is new = set_own accounts u i (record { user = a.user; allowance = new }) first own_name

  -- the others have what they had
  pub other_is : (new : Purse) (v : UserId) → (v ≡ u → ⊥)
      → account_of (set accounts i (record { user = a.user; allowance = new })) v ≡ account_of accounts v
  other_is new v differ =
      set_other accounts u v i (record { user = a.user; allowance = new }) first own_name differ

  pub found_is : account_of accounts u ≡ Some a.allowance
  found_is = account_at accounts u i a first ∙ ap (λ b. Some b.allowance) (sym is)

  pub held_is : (p : Purse) → account_of accounts u ≡ Some p → a.allowance ≡ p
  held_is p own = let e : Some a.allowance ≡ Some p = sym found_is ∙ own in cc (e)

pub not_true : (b : Bool) → b ≡ false → IsTrue b → ⊥
not_true b is_false is_true = absurd (cc (is_false, is_true))

pub settled_is : (o : Option Purse) (f : Purse → Purse) (p new : Purse) → o ≡ Some p → new ≡ f p
    → Some new ≡ option_map f o
settled_is o f p new own is = ap Some is ∙ sym (ap (option_map f) own)

pub none_settled : (o : Option Purse) (f : Purse → Purse) → o ≡ None → o ≡ option_map f o
none_settled o f none = none ∙ sym (ap (option_map f) none)

pub may_fresh : (now : ℕ) (a : Purse) → a ≡ fresh → MayPay (stands_at now a)
may_fresh now a e =
    subst (λ (p : Purse). MayPay (stands_at now p)) (sym e) (omega arith, omega arith)

-- a user who has no account has enough for a step
pub unpaid_is : (o : Option Purse) (now : ℕ) (new a : Purse) → a ≡ unwrap_or o fresh
    → new ≡ stands_at now a → (MayPay (stands_at now a) → ⊥)
    → Some new ≡ option_map (stands_at now) o
unpaid_is None now new a e is spent =
    absurd (spent (may_fresh now a e))
unpaid_is (Some p) now new a e is spent = ap Some (is ∙ ap (stands_at now) e)

pub waits_is : (o : Option Purse) (now : ℕ) (a : Purse) → a ≡ unwrap_or o fresh
    → (MayPay (stands_at now a) → ⊥)
    → IfSome o (λ p. MayPay (stands_at now p) → ⊥)
waits_is None now a e spent = tt
waits_is (Some p) now a e spent = subst (λ (q : Purse). MayPay (stands_at now q) → ⊥) e spent
