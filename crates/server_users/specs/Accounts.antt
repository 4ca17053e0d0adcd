-- The accounts of users, and the users of guests.
use Rattle.std.specs.Prelude.{◌≡◌, ℕ, zero, suc, Bool, true, false, List, [], ◌∷◌, Option, Some, None}
use Rattle.std.specs.Prelude.{if◌then◌else◌, length, filter}
use Rattle.acl.specs.Same.{same_user}
use Rattle.acl.specs.declared.user_id.UserId.{UserId}
use Rattle.server_users.specs.declared.allowance.Outcome.{Outcome}
use Rattle.server_users.specs.declared.allowance.Outcome.TheVariants as outcome
use Rattle.server_users.specs.declared.allowances.Account.{Account}
use Rattle.server_users.specs.Allowances.{Purse}

-- the purse of a user; none if they have no account
abbrev pub account_of : List Account → UserId → Option Purse
account_of [] u = None
account_of (a ∷ more) u = if same_user a.user u then Some a.allowance else account_of more u

-- an outcome as it counts for this user: what the owner has done costs as little as typing
abbrev pub judged : UserId → UserId → Outcome → Outcome
judged owner user outcome.Unchecked =
    if same_user user owner then outcome.Typed else outcome.Unchecked
judged owner user outcome.Granted =
    if same_user user owner then outcome.Typed else outcome.Granted
judged owner user o = o

-- how many of the guests are this user's
abbrev pub guests_of : List UserId → UserId → ℕ
guests_of guests u = length (filter (same_user u) guests)

-- the first that passes the test stands at this place
abbrev pub IsFirst : {X : Type 0} → (X → Bool) → List X → ℕ → Type 0
IsFirst p [] i = ⊥
IsFirst p (x ∷ xs) zero = p x ≡ true
IsFirst p (x ∷ xs) (suc i) = (p x ≡ false) × IsFirst p xs i
