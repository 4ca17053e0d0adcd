-- The locks that the code keeps, and the histories that they stand for.
use Rattle.std.specs.Prelude.{◌≡◌, ℕ, Bool, true, false, ◌==◌, ◌&&◌, ◌||◌, not, option_and_then}
use Rattle.std.specs.Prelude.{List, Option, Some, None, is_none, slice_get, length, if◌then◌else◌}
use Rattle.std.specs.Option.{option_map_or}
use Rattle.acl.specs.Same.{same_user}
use Rattle.acl.specs.History.{History, is_open, open_count, may}
use Rattle.acl.specs.Slots.{slot_of, SlotsStandFor}
use Rattle.acl.specs.Table.{Table, lets}
use Rattle.acl.specs.slots.TheConstants.{WINDOWS}
use Rattle.acl.specs.declared.leaders.Edition.{Edition}
use Rattle.acl.specs.declared.user_id.UserId.{UserId}
use Rattle.acl.specs.declared.act.LockMode.{LockMode}
use Rattle.acl.specs.declared.bits.Bit.TheVariants.{Write}
use Rattle.acl.specs.declared.act.Object.TheVariants.{Window}
use Rattle.acl.specs.declared.act.Act.{Act}
use Rattle.acl.specs.declared.act.Act.TheVariants.{Gone, Set}
use Rattle.writelock.specs.declared.lock.Lock.{Lock}
use Rattle.writelock.specs.declared.locks.Locks.{Locks}
use Rattle.writelock.specs.Holding.{is_auto, is_off, is_on, default_of, mode_of, holder}

-- the lock of a window, in its slot
abbrev pub lock_at : List (Option ℕ) → List Lock → ℕ → Option Lock
lock_at windows locks w = option_and_then (λ slot. slice_get locks slot) (slot_of windows w)

abbrev pub lock_in : Locks → ℕ → Option Lock
lock_in t w = lock_at t.windows.serials t.locks w

-- the lock of an open window, by the definitions
abbrev pub lock_of : Edition → UserId → History → ℕ → Option Lock
lock_of edition owner h w =
    if is_open h w then Some (record { mode = mode_of h w; holder = holder edition owner h w })
    else None

-- these locks are what the definitions give; their holders may write; and nobody holds a window
-- that isn't open
pub record AreLocks (default : LockMode) (locks : ℕ → Option Lock)
    (edition : Edition) (owner : UserId) (h : History)
    : Type 0 where
  pub default_is : default ≡ default_of h
  pub locks_are : (w : ℕ) → locks w ≡ lock_of edition owner h w
  pub able : (w : ℕ) (u : UserId) → holder edition owner h w ≡ Some u
      → may edition owner h u Write (Window w) ≡ true
  pub unheld : (w : ℕ) → is_open h w ≡ false → holder edition owner h w ≡ None

-- the locks are what the definitions give for this history of a session of this edition, with this
-- owner
pub record LocksStandFor (t : Locks) (edition : Edition) (owner : UserId) (h : History)
    : Type 0 where
  pub slots : SlotsStandFor t.windows.serials (is_open h) (open_count h)
  pub all : length t.locks ≡ WINDOWS
  pub are : AreLocks t.default (lock_in t) edition owner h

-- whether an act of a list command frees by itself what u holds on w
abbrev pub frees : Act → UserId → ℕ → Bool
frees (Set v Write (Window x) false) u w = same_user v u && x == w
frees (Gone v) u w = same_user v u
frees _ u w = false

-- who still holds a window after an act of a list command; the table is that after the act
abbrev pub remaining : Table → Act → ℕ → Option UserId → Option UserId
remaining acl act w None = None
remaining acl act w (Some u) =
    if frees act u w || not (lets acl u Write (Window w)) then None else Some u

abbrev pub with_remaining : Table → Act → ℕ → Lock → Lock
with_remaining acl act w lock = record lock { holder = remaining acl act w lock.holder }

-- the lock in a slot after an act of a list command; the slot holds this window, or none
abbrev pub after_act : Table → Act → Option ℕ → Lock → Lock
after_act acl act window lock = option_map_or (λ w. with_remaining acl act w lock) window lock

abbrev pub lock_by : UserId → LockMode → Lock
lock_by by mode = record { mode = mode; holder = if is_off mode then None else Some by }

abbrev pub opened_by : UserId → LockMode → Lock
opened_by by mode = record { mode = mode; holder = if is_on mode then Some by else None }

abbrev pub has_holder : UserId → Option UserId → Bool
has_holder user None = false
has_holder user (Some holder) = same_user holder user

-- the lock after the user leaves: free, if the user held it in mode auto
abbrev pub left_by : UserId → Lock → Lock
left_by user lock =
    record lock {
      holder =
          if is_auto lock.mode && has_holder user lock.holder then None else lock.holder;
    }

-- the lock after the user enters: the user's, if it is free in mode auto and the user may write
abbrev pub entered_by : UserId → Bool → Lock → Lock
entered_by user may_write lock =
    record lock {
      holder =
          if is_auto lock.mode && is_none lock.holder && may_write then Some user else lock.holder;
    }

-- the lock after this user lost it: free, if the user held it
abbrev pub without_holder : Option UserId → Lock → Lock
without_holder gone lock =
    record lock {
      holder =
          if option_map_or (λ user. has_holder user lock.holder) gone false then None
          else lock.holder;
    }

-- whether the lock stops a user: a free lock stops nobody, a held one everyone but its holder
abbrev pub stops_nobody_but : UserId → Option UserId → Bool
stops_nobody_but user None = true
stops_nobody_but user (Some holder) = same_user holder user
