-- What a denial carries: the entry that is missing, or the user who holds the lock.
use Rattle.std.specs.Prelude.{ℕ, Option, Some, None}
use Rattle.std.specs.Option.{option_map_or}
use Rattle.acl.specs.declared.user_id.UserId.{UserId}
use Rattle.acl.specs.declared.bits.Bit.{Bit}
use Rattle.acl.specs.declared.act.Object.{Object}
use Rattle.acl.specs.declared.act.Object.TheVariants as object
use Rattle.session_model.specs.declared.refusal.Denied.{Denied}
use Rattle.session_model.specs.declared.refusal.Denied.TheVariants as denied
use Rattle.session_model.specs.declared.refusal.Refusal.{Refusal}
use Rattle.session_model.specs.declared.refusal.Refusal.TheVariants.{EntryDenied, LockDenied, NoWindow}
use Rattle.session_model.specs.Tables.{Window, Tables, window_at}
use Rattle.session_model.specs.Rights.{leaders_in}

-- a window's number
abbrev pub number_of : Tables → ℕ → ℕ
number_of t serial = option_map_or (λ (w : Window). w.number) (window_at t serial) 0

-- the object of a denial: a window with its serial and its number, or a command
abbrev pub denied_on : Tables → Object → Denied
denied_on t (object.Window serial) = denied.Window serial (number_of t serial)
denied_on t (object.Command c) = denied.Command c

-- the denial of a missing entry: the user, and the leaders who lack it too
abbrev pub entry_denial : Tables → UserId → Bit → Object → Refusal
entry_denial t user bit object = EntryDenied (record {
  user = user;
  bit = bit;
  on = denied_on t object;
  leaders = leaders_in t user;
})

-- the denial of a lock: the user who holds it
abbrev pub lock_denial : Tables → ℕ → Option UserId → Refusal
lock_denial t window None = NoWindow
lock_denial t window (Some holder) =
    LockDenied (record { serial = window; number = number_of t window; holder = holder })
