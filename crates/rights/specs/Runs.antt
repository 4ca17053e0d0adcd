-- Acts that one list command does at once, while all locks stay as they are.
use Rattle.std.specs.Prelude.{Bool, true, ◌≡◌, is_none}
use Rattle.acl.specs.declared.act.Object.{Object}
use Rattle.acl.specs.declared.act.Object.TheVariants.{Window, Command}
use Rattle.acl.specs.declared.leaders.Edition.{Edition}
use Rattle.acl.specs.declared.user_id.UserId.{UserId}
use Rattle.acl.specs.History.{History, there}
use Rattle.writelock.specs.declared.locks.Locks.{Locks}
use Rattle.writelock.specs.Holding.{holder}
use Rattle.writelock.specs.LockTable.{LocksStandFor}

-- whether nobody holds the lock of the object
abbrev pub is_unheld : Edition → UserId → History → Object → Bool
is_unheld edition owner h (Window w) = is_none (holder edition owner h w)
is_unheld edition owner h (Command c) = true

-- by these locks, the object is there, and nobody holds its lock
abbrev pub IsUnlocked : Locks → Object → Type 0
IsUnlocked locks object =
    (edition : Edition) (owner : UserId) (h : History) → LocksStandFor locks edition owner h
    → (there h object ≡ true) × (is_unheld edition owner h object ≡ true)
