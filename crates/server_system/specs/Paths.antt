-- Where a server's files and its socket are.
use Rattle.std.specs.Prelude.{◌≡◌, ◌⊎◌, ◌==◌, ℕ, ◌<◌, ◌≤◌, Bool, true, false, not, bit_and, List, [], ◌++◌, codes}
use Rattle.std.specs.Prelude.{Result, Ok, Err, length}
use Rattle.std.specs.IoError.{error_kind}
use Rattle.std.specs.String.{string_bytes}
use Rattle.std.specs.declared.fs.File.{File}
use Rattle.std.specs.declared.io.Error.{Error}
use Rattle.std.specs.declared.io.ErrorKind.TheVariants.{NotFound}
use Rattle.acl.specs.declared.user_id.UserId.{UserId}
use Rattle.mio.specs.declared.net.uds.listener.UnixListener.{UnixListener}
use Rattle.server_system.specs.Folders.{IsHeld, IsLooked, IsOpenAt}
use Rattle.server_system.specs.Locks.{IsLocked, IsUnlocked}
use Rattle.server_system.specs.declared.fault.SocketCause.{SocketCause}
use Rattle.server_system.specs.declared.fault.SocketCause.TheVariants as cause
use Rattle.server_system.specs.declared.fault.SocketFault.{SocketFault}
use Rattle.server_system.specs.declared.fault.SocketFault.TheVariants as fault
use Rattle.server_system.specs.declared.host.Host.{Ghosts}
use Rattle.server_system.specs.declared.looks.Looks.{Looks}
use Rattle.server_system.specs.declared.socket.SocketPath.{SocketPath}
use Rattle.server_system.specs.declared.users_file.Stamp.{Stamp}
use Rattle.server_system.specs.declared.users_file.UsersFile.{UsersFile}
use Rattle.server_system.specs.declared.watched.WatchedUsers.{WatchedUsers}

abbrev pub socket_path : SocketPath → List ℕ
socket_path place = place.path.now

abbrev pub users_path : {H : Type 0} → UsersFile H → List ℕ
users_path file = string_bytes file.path

-- of the file at which looks are taken
abbrev pub watched_path : {H : Type 0} → WatchedUsers (UsersFile H) Looks → List ℕ
watched_path watched = users_path watched.file

-- whose first line it must have
abbrev pub watched_owner : {F : Type 0} → WatchedUsers F Looks → UserId
watched_owner watched = watched.owner

-- ---- sockets

-- the name of the lock's file beside a socket
abbrev pub lock_of : List ℕ → List ℕ
lock_of path = path ++ codes ".lock"

-- a socket has this stamp
abbrev pub IsSocket : Stamp → Type 0
IsSocket stamp = bit_and stamp.mode 0o170000 ≡ 0o140000

-- everybody on the machine may connect to a socket of this stamp
abbrev pub lets_all : Result Stamp Error → Bool
lets_all (Ok stamp) = not (bit_and stamp.mode 0o002 == 0)
lets_all (Err why) = false

module _ {R A B C : Type 0} (system : Ghosts R A B C) (host : R) (path : List ℕ) where
  -- a socket is at the path, or nothing
  abbrev pub IsThere : Bool → Type 0
  IsThere true = (stamp : Stamp) × system.stands host path (Ok stamp) × IsSocket stamp
  IsThere false = (why : Error) × system.stands host path (Err why) × (error_kind why ≡ NotFound)

  -- nothing is at the path; or a socket on which nobody listened, and the holder of the lock removed it
  abbrev pub IsFree : File → Type 0
  IsFree lock = IsThere false
      ⊎ (IsThere true × system.serves host path (Ok false) × system.removes host path lock (Ok tt))

  -- A new socket was made at the path, and this listens on it: others can't replace it, this lock beside it is held,
  -- and no server was there. A path has from 1 to 107 bytes.
  pub record IsNew (lock : File) (listener : UnixListener) : Type 0 where
    pub some : 0 < length path
    pub short : length path ≤ 107
    pub held : IsHeld system host path
    pub locked : IsLocked system host (lock_of path) lock
    pub free : IsFree lock
    pub bound : system.binds host path lock (Ok listener)

  -- so by some lock
  pub record ListensAt (listener : UnixListener) : Type 0 where
    pub lock : File
    pub by : IsNew lock listener

  -- the system tells why there can't be a socket: of the folders, of what is there, or of what is to be done
  abbrev pub IsNotMade : Error → Type 0
  IsNotMade why = IsLooked system host path (Err why) ⊎ system.stands host path (Err why)
      ⊎ system.serves host path (Err why)
      ⊎ ((lock : File) × (system.removes host path lock (Err why) ⊎ system.binds host path lock (Err why)))

  -- why there is no new socket at the path; the folder that is open is named, and what the system told
  abbrev pub IsRefused : SocketCause → Type 0
  IsRefused cause.NoPath = path ≡ []
  IsRefused cause.LongPath = 107 < length path
  IsRefused (cause.Folder folder) = (folder.is_above ≡ false) × IsOpenAt system host path folder
  IsRefused cause.NoSocket = (stamp : Stamp) × system.stands host path (Ok stamp) × (IsSocket stamp → ⊥)
  IsRefused cause.Taken = system.serves host path (Ok true)
  IsRefused (cause.NotMade why) = IsNotMade why.0
  IsRefused cause.NoMemory = Unit {0}
  IsRefused other = ⊥

  -- so a server can't listen there, or the lock isn't taken for this reason
  abbrev pub IsUnheard : SocketCause → Type 0
  IsUnheard why = IsRefused why ⊎ IsUnlocked system host (lock_of path) why

  -- the fault names the path
  abbrev pub IsSocketFault : SocketFault → Type 0
  IsSocketFault (fault.At at why) = (string_bytes at ≡ path) × IsUnheard why
  IsSocketFault fault.NoMemory = Unit {0}

  -- whether everybody on the machine may connect to what is there, as far as the system tells
  abbrev pub LetsIn : Bool → Type 0
  LetsIn is = (told : Result Stamp Error) × system.stands host path told × (is ≡ lets_all told)
