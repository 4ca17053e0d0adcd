-- The lock beside a socket.
use Rattle.std.specs.Prelude.{◌≡◌, ◌⊎◌, ℕ, List, Result, Ok, Err}
use Rattle.std.specs.IoError.{error_kind}
use Rattle.std.specs.String.{string_bytes}
use Rattle.std.specs.declared.fs.File.{File}
use Rattle.std.specs.declared.fs.locks.TryLockError.TheVariants as refusal
use Rattle.std.specs.declared.io.Error.{Error}
use Rattle.std.specs.declared.io.ErrorKind.TheVariants.{AlreadyExists}
use Rattle.server_system.specs.Looking.{IsPlain}
use Rattle.server_system.specs.declared.fault.SocketCause.{SocketCause}
use Rattle.server_system.specs.declared.fault.SocketCause.TheVariants as cause
use Rattle.server_system.specs.declared.host.Host.{Ghosts}
use Rattle.server_system.specs.declared.users_file.Stamp.{Stamp}

-- two stamps are of one plain file; the first was told of a name
pub record IsSame (named opened : Stamp) : Type 0 where
  pub plain : IsPlain named
  pub device : named.device ≡ opened.device
  pub inode : named.inode ≡ opened.inode

module _ {R A B C : Type 0} (system : Ghosts R A B C) (host : R) (name : List ℕ) where
  -- a plain file of this name was opened: it was one before, and the name is that of the opened one after
  pub record IsOpen (file : File) : Type 0 where
    pub before : Stamp
    pub stood : system.stands host name (Ok before)
    pub plain : IsPlain before
    pub own : Stamp
    pub opened : system.opens host name (Ok (file, own))
    pub after : Stamp
    pub stands : system.stands host name (Ok after)
    pub same : IsSame after own

  -- there was no file of this name, and this one was made; or there was one, and it is open
  abbrev pub IsOpened : File → Type 0
  IsOpened file = system.makes host name (Ok file)
      ⊎ (((why : Error) × system.makes host name (Err why) × (error_kind why ≡ AlreadyExists)) × IsOpen file)

  -- it is open and locked
  abbrev pub IsLocked : File → Type 0
  IsLocked file = IsOpened file × system.locks host file (Ok tt)

  -- no plain file has the name, or another one than that which was opened
  abbrev pub IsNoLock : Type 0
  IsNoLock = ((found : Stamp) × system.stands host name (Ok found) × (IsPlain found → ⊥))
      ⊎ ((named : Stamp) × (opened : File × Stamp) × system.stands host name (Ok named)
      × system.opens host name (Ok opened) × (IsSame named opened.1 → ⊥))

  -- why no lock is held: another program holds it, no plain file is there, or what the system told
  abbrev pub IsUnlocked : SocketCause → Type 0
  IsUnlocked cause.Taken = (file : File) × IsOpened file × system.locks host file (Err refusal.WouldBlock)
  IsUnlocked (cause.NoLock at) = (string_bytes at ≡ name) × IsNoLock
  IsUnlocked (cause.NotMade why) =
      (system.makes host name (Err why.0) × (error_kind why.0 ≡ AlreadyExists → ⊥))
      ⊎ system.stands host name (Err why.0) ⊎ system.opens host name (Err why.0)
      ⊎ ((file : File) × IsOpened file × system.locks host file (Err (refusal.Error why.0)))
  IsUnlocked other = ⊥

  -- the socket of this path was to be removed by the holder of this lock, and this came of it
  abbrev pub IsLeft : File → Type 0
  IsLeft lock = (came : Result (Unit {0}) Error) × system.removes host name lock came
