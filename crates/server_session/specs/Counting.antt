-- What is counted of users and of windows.
use Rattle.std.specs.Prelude.{◌≡◌, ◌<◌, ◌≤◌, ◌++◌, ◌∷◌, ◌^◌, ◌+◌, ◌-◌, ◌/◌, ◌%◌, ℕ, Bool, true, false, []}
use Rattle.std.specs.Prelude.{IfSome, Option, Some, None, if◌then◌else◌, min, option_map, unwrap_or, vec_capacity, vec_len}
use Rattle.std.specs.Duration.{as_nanos}
use Rattle.std.specs.declared.alloc.Global.{Global}
use Rattle.std.specs.declared.time.Duration.{Duration}
use Rattle.std.specs.declared.vec.Vec.{Vec}
use Rattle.acl.specs.History.{without_user}
use Rattle.acl.specs.declared.user_id.UserId.{UserId}
use Rattle.server_seat.specs.declared.seat.GuestKind.{GuestKind}
use Rattle.server_seat.specs.declared.seat.GuestKind.TheVariants as kind
use Rattle.server_users.specs.Accounts.{account_of, guests_of, judged}
use Rattle.server_users.specs.Allowances.{MayPay, Purse, fresh, paid, settled, stands_at}
use Rattle.server_users.specs.declared.allowance.Outcome.{Outcome}
use Rattle.server_session.specs.Loading.{IsFull, SameBut, typed_into}
use Rattle.server_session.specs.declared.books.Books.{Books}
use Rattle.server_session.specs.declared.books.Calls.{Calls}
use Rattle.server_session.specs.declared.books.Limits.{Limits}
use Rattle.server_session.specs.declared.seated.Accounts.{Accounts}

-- one call more
abbrev pub once_more : Calls → Calls
once_more calls = record { count = (calls.count + 1) % 2 ^ 64 }

-- ---- steps that are paid for

-- a time in whole milliseconds
abbrev pub millis_of : Duration → ℕ
millis_of now = min (as_nanos now / 1000000) (2 ^ 64 - 1)

-- the purse of a user, and what they have of it at a time in milliseconds
abbrev pub purse_of : Books → UserId → Option Purse
purse_of books user = account_of books.allowances.accounts.items user

abbrev pub purse_at : ℕ → Books → UserId → Purse
purse_at now books user = stands_at now (unwrap_or (purse_of books user) fresh)

-- the purses of others, and all else, are as they were
abbrev pub SameButFor : UserId → Books → Books → Type 0
SameButFor user old new = ((u : UserId) → (u ≡ user → ⊥) → purse_of new u ≡ purse_of old u)
    × (new ≡ record old { allowances = new.allowances })

-- the user paid, as they might; or they have to wait, since they might not
pub record HasPaid (old : Books) (user : UserId) (now cost : ℕ) (is_paid : Bool) (new : Books) : Type 0 where
  pub may : is_paid ≡ true → MayPay (purse_at now old user)
  pub pays : is_paid ≡ true → purse_of new user ≡ Some (paid cost (purse_at now old user))
  pub may_not : is_paid ≡ false → IfSome (purse_of old user) (λ purse. ¬ (MayPay (stands_at now purse)))
  pub waits : is_paid ≡ false → purse_of new user ≡ option_map (stands_at now) (purse_of old user)
  pub others : SameButFor user old new

-- what the user paid was settled by what came of the step
pub record HasSettled (old : Books) (user : UserId) (cost : ℕ) (outcome : Outcome) (new : Books) : Type 0 where
  pub own : purse_of new user
      ≡ option_map (settled (judged old.allowances.owner user outcome) cost) (purse_of old user)
  pub others : SameButFor user old new

-- ---- clients and windows

-- the users of the clients, or of the windows, of a session
abbrev pub Guests : Type 0
Guests = Vec UserId Global

-- the limits by which these accounts count
abbrev pub limits_of : {B T : Type 0} → Accounts B T → Limits
limits_of accounts = accounts.limits

-- One more was counted, below the bound if there is one; or the user has as many as a user may have, or there was no
-- room for one more.
pub record HasAdded (old : Guests) (user : UserId) (most refused : Option ℕ) (new : Guests) : Type 0 where
  pub unbounded : most ≡ None → (refused ≡ None) × (new.items ≡ old.items)
  pub counted : (bound : ℕ) → most ≡ Some bound → refused ≡ None
      → (guests_of old.items user < bound) × (new.items ≡ old.items ++ user ∷ [])
  pub same : IfSome refused (λ bound. (most ≡ Some bound) × (new.items ≡ old.items))
  pub full : IfSome refused (λ bound. vec_len old < vec_capacity old → bound ≤ guests_of old.items user)

abbrev pub Adds : Books → UserId → GuestKind → Limits → Option ℕ → Books → Type 0
Adds old user kind.Client limits refused new =
    HasAdded old.clients user limits.clients refused new.clients × (new ≡ record old { clients = new.clients })
Adds old user kind.Window limits refused new =
    HasAdded old.windows user limits.windows refused new.windows × (new ≡ record old { windows = new.windows })

-- one less was counted
abbrev pub Removes : Books → UserId → GuestKind → Books → Type 0
Removes old user kind.Client new = (new.clients.items ≡ without_user user old.clients.items)
    × (new ≡ record old { clients = new.clients })
Removes old user kind.Window new = (new.windows.items ≡ without_user user old.windows.items)
    × (new ≡ record old { windows = new.windows })

-- ---- what is typed into windows

-- how many bytes count as typed into a window; None if nothing is counted for it
abbrev pub load_of : Books → ℕ → Option ℕ
load_of books window = typed_into books.loads window

-- of a window that opened, if there is memory for it
abbrev pub load_opened : Bool → Option ℕ → Option ℕ
load_opened done load = if done then Some 0 else load

-- so many count for the window now; other windows, and all else, are as they were
pub record IsLoaded (old : Books) (window : ℕ) (load : Option ℕ) (new : Books) : Type 0 where
  pub own : load_of new window ≡ load
  pub others : SameBut window old.loads new.loads
  pub rest : new ≡ record old { loads = new.loads }

-- what is typed into a window next has to wait, or not
pub record FindsFull (books : Books) (window : ℕ) (is_full : Bool) : Type 0 where
  pub waits : is_full ≡ true → IsFull (load_of books window)
  pub goes_on : is_full ≡ false → IsFull (load_of books window) → ⊥
