-- Users' accounts and guests, by the places at which they are found.
use Rattle.server_users.proofs.Vocabulary.{◌≡◌, ℕ, zero, suc, ◌<◌, ◌≤◌, Bool, true, false, List, [], ◌∷◌, ◌++◌, length}
use Rattle.server_users.proofs.Vocabulary.{Some, None, set, get_or, refl, ap, sym, subst, ◌∙◌, arith, Option}
use Rattle.server_users.proofs.Vocabulary.{if◌then◌else◌, unwrap_or, position, same_user, UserId, same_user-true}
use Rattle.server_users.proofs.Vocabulary.{Account, Purse, fresh, account_of, IsFirst}
use Rattle.std.proofs.Common.{Ok, Err}
use Rattle.std.specs.Prelude.{Result, OnErr}
use Rattle.std.specs.List.{position_or_len, remove}
use Rattle.std.proofs.lemmas.List.Quantifiers.{position-Some}
use Rattle.std.proofs.lemmas.List.Sums.{fails_before_first}
use Rattle.std.proofs.lemmas.Grind.{common_steps}
use Rattle.acl.specs.History.{without_user}

pub if_true : {A : Type 0} (b : Bool) (x y : A) → b ≡ true → (if b then x else y) ≡ x
if_true true x y is = refl
if_true false x y is = absurd (cc (is))

pub if_false : {A : Type 0} (b : Bool) (x y : A) → b ≡ false → (if b then x else y) ≡ y
if_false true x y is = absurd (cc (is))
if_false false x y is = refl

pub on_err : {A E P : Type 0} (r : Result A E) → P → OnErr r P
on_err (Ok a) h = tt
on_err (Err e) h = h

-- ---- the first that passes a test

module _ {X : Type 0} (p : X → Bool) where
  -- none of them passes
  abbrev pub NoneOf : List X → Type 0
  NoneOf [] = Unit {0}
  NoneOf (x ∷ xs) = (p x ≡ false) × NoneOf xs

  first_at : (xs : List X) (i : ℕ) (d : X) → i < length xs → p (get_or xs i d) ≡ true
      → ((k : ℕ) → k < i → p (get_or xs k d) ≡ false) → IsFirst p xs i
  first_at [] i d lt here before = absurd (omega arith)
  first_at (x ∷ xs) zero d lt here before = here
  first_at (x ∷ xs) (suc i) d lt here before = (
    before 0 (omega arith),
    first_at xs i d (omega arith) here (λ k below. before (suc k) (omega arith)),
  )

  pub found : (xs : List X) (i : ℕ) → position p xs ≡ Some i → IsFirst p xs i
  found [] i at = absurd (cc (at))
  found (x ∷ xs) i at =
      let w = position-Some p (x ∷ xs) i x at in first_at (x ∷ xs) i x w.0 w.1 w.2

  none_at : (xs : List X) (d : X) → ((k : ℕ) → k < length xs → p (get_or xs k d) ≡ false)
      → NoneOf xs
  none_at [] d none = tt
  none_at (x ∷ xs) d none =
      (none 0 (omega arith), none_at xs d (λ k below. none (suc k) (omega arith)))

  pub lost : (xs : List X) → position p xs ≡ None → NoneOf xs
  lost [] none = tt
  lost (x ∷ xs) none =
      let past : length (x ∷ xs) ≤ position_or_len p (x ∷ xs) = grind (arith, common_steps, none) in
      none_at (x ∷ xs) x (λ k lt. fails_before_first p (x ∷ xs) k x (omega (arith, past, lt)))

  pushed : (xs : List X) (x : X) → NoneOf xs → p x ≡ true
      → IsFirst p (xs ++ x ∷ []) (length xs)
  pushed [] x none is = is
  pushed (y ∷ xs) x none is = (none.0, pushed xs x none.1 is)

  pub pushed_is : (xs new : List X) (x : X) (i : ℕ) → NoneOf xs → new ≡ xs ++ x ∷ []
      → i ≡ length xs → p x ≡ true → IsFirst p new i
  pushed_is xs new x i none e f is = subst (λ l. IsFirst p l i) (sym e)
      (subst (λ n. IsFirst p (xs ++ x ∷ []) n) (sym f) (pushed xs x none is))

  pub passes : (xs : List X) (i : ℕ) (d : X) → IsFirst p xs i → p (get_or xs i d) ≡ true
  passes [] i d at = absurd at
  passes (x ∷ xs) zero d at = at
  passes (x ∷ xs) (suc i) d at = passes xs i d at.1

-- ---- names

pub other_user : (u v : UserId) → (u ≡ v → ⊥) → same_user u v ≡ false
other_user u v differ = by (same_user u v) refl
  where
    by : (b : Bool) → same_user u v ≡ b → same_user u v ≡ false
    by true is = absurd (differ (same_user-true u v is))
    by false is = is

-- ---- accounts

abbrev pub is_of : UserId → Account → Bool
is_of u a = same_user a.user u

pub no_account : (accounts : List Account) (u : UserId) → NoneOf (is_of u) accounts
    → account_of accounts u ≡ None
no_account [] u none = refl
no_account (a ∷ accounts) u none =
    if_false (same_user a.user u) _ _ none.0 ∙ no_account accounts u none.1

pub account_at : (accounts : List Account) (u : UserId) (i : ℕ) (d : Account)
    → IsFirst (is_of u) accounts i
    → account_of accounts u ≡ Some (get_or accounts i d).allowance
account_at [] u i d at = absurd at
account_at (a ∷ accounts) u zero d at = if_true (same_user a.user u) _ _ at
account_at (a ∷ accounts) u (suc i) d at =
    if_false (same_user a.user u) _ _ at.0 ∙ account_at accounts u i d at.1

known : (o : Option Purse) (p : Purse) → o ≡ Some p → o ≡ Some (unwrap_or o fresh)
known None p is = absurd (cc (is))
known (Some q) p is = refl

pub some_account : (accounts : List Account) (u : UserId) (i : ℕ) → IsFirst (is_of u) accounts i
    → account_of accounts u ≡ Some (unwrap_or (account_of accounts u) fresh)
some_account [] u i at = absurd at
some_account (a ∷ accounts) u i at = known _ _ (account_at (a ∷ accounts) u i a at)

pub push_own : (accounts : List Account) (u : UserId) (a : Account) → NoneOf (is_of u) accounts
    → same_user a.user u ≡ true → account_of (accounts ++ a ∷ []) u ≡ Some a.allowance
push_own [] u a none is = if_true (same_user a.user u) _ _ is
push_own (b ∷ accounts) u a none is =
    if_false (same_user b.user u) _ _ none.0 ∙ push_own accounts u a none.1 is

pub push_other : (accounts : List Account) (v : UserId) (a : Account) → same_user a.user v ≡ false
    → account_of (accounts ++ a ∷ []) v ≡ account_of accounts v
push_other [] v a is = if_false (same_user a.user v) _ _ is
push_other (b ∷ accounts) v a is =
    ap (λ rest. if same_user b.user v then Some b.allowance else rest) (push_other accounts v a is)

pub set_own : (accounts : List Account) (u : UserId) (i : ℕ) (a : Account)
    → IsFirst (is_of u) accounts i → same_user a.user u ≡ true
    → account_of (set accounts i a) u ≡ Some a.allowance
set_own [] u i a at is = absurd at
set_own (b ∷ accounts) u zero a at is = if_true (same_user a.user u) _ _ is
set_own (b ∷ accounts) u (suc i) a at is =
    if_false (same_user b.user u) _ _ at.0 ∙ set_own accounts u i a at.1 is

pub set_other : (accounts : List Account) (u v : UserId) (i : ℕ) (a : Account)
    → IsFirst (is_of u) accounts i → same_user a.user u ≡ true → (v ≡ u → ⊥)
    → account_of (set accounts i a) v ≡ account_of accounts v
set_other [] u v i a at is differ = absurd at
set_other (b ∷ accounts) u v zero a at is differ =
    if_false (same_user a.user v) _ _ (other_user a.user v
    (λ e. differ (sym e ∙ same_user-true a.user u is)))
    ∙ sym (if_false (same_user b.user v) _ _ (other_user b.user v
    (λ e. differ (sym e ∙ same_user-true b.user u at))))
set_other (b ∷ accounts) u v (suc i) a at is differ =
    ap (λ rest. if same_user b.user v then Some b.allowance else rest)
    (set_other accounts u v i a at.1 is differ)

-- ---- guests

pub without_first : (guests : List UserId) (u : UserId) (i : ℕ) → IsFirst (same_user u) guests i
    → remove guests i ≡ without_user u guests
without_first [] u i at = absurd at
without_first (g ∷ guests) u zero at = sym (if_true (same_user u g) _ _ at)
without_first (g ∷ guests) u (suc i) at =
    ap (λ rest. g ∷ rest) (without_first guests u i at.1) ∙ sym (if_false (same_user u g) _ _ at.0)

pub without_none : (guests : List UserId) (u : UserId) → NoneOf (same_user u) guests
    → without_user u guests ≡ guests
without_none [] u none = refl
without_none (g ∷ guests) u none =
    if_false (same_user u g) _ _ none.0 ∙ ap (λ rest. g ∷ rest) (without_none guests u none.1)
