-- The users' file: when it is read, and what is taken from it.
use Rattle.std.specs.Prelude.{◌≡◌, ◌⊎◌, ◌==◌, ℕ, ◌+◌, ◌-◌, ◌^◌, ◌<◌, ◌≤◌, List, length, Option, Some, None, Result, Ok}
use Rattle.std.specs.Prelude.{Err, bit_and, false, if◌then◌else◌, min, slice_get}
use Rattle.std.specs.Result.{result_ok}
use Rattle.std.specs.String.{string_bytes}
use Rattle.std.specs.declared.alloc.Global.{Global}
use Rattle.std.specs.declared.io.Error.{Error}
use Rattle.std.specs.declared.vec.Vec.{Vec}
use Rattle.acl.specs.Names.{name_of}
use Rattle.acl.specs.Same.{same_user}
use Rattle.acl.specs.declared.user_id.UserId.{UserId}
use Rattle.server_users.specs.Entries.{Entry, IsFileOf, names}
use Rattle.server_users.specs.Stands.{Breaks}
use Rattle.server_users.specs.Trust.{IsClosed, IsKept, IsOwn}
use Rattle.server_system.specs.Folders.{IsHeldFile, IsLookedFile, IsOpenAtFile, access_of}
use Rattle.server_system.specs.declared.fault.UsersFileFault.{UsersFileFault}
use Rattle.server_system.specs.declared.fault.UsersFileFault.TheVariants as fault
use Rattle.server_system.specs.declared.host.Host.{Ghosts}
use Rattle.server_system.specs.declared.looks.FoundLook.{FoundLook}
use Rattle.server_system.specs.declared.looks.KnownUsers.{KnownUsers}
use Rattle.server_system.specs.declared.looks.Looks.{Looks}
use Rattle.server_system.specs.declared.looks.UsersNews.TheVariants as news
use Rattle.server_system.specs.declared.users_file.LastLook.{LastLook}
use Rattle.server_system.specs.declared.users_file.Stamp.{Stamp}

-- ---- what is read

-- a plain file has this stamp
abbrev pub IsPlain : Stamp → Type 0
IsPlain stamp = bit_and stamp.mode 0o170000 ≡ 0o100000

-- a file of at most 1,048,576 bytes, which only root and this account can change, is the file of these users
pub record AreOf (account : ℕ) (stamp : Stamp) (file : List ℕ) (users : List Entry) : Type 0 where
  pub kept : IsKept account (access_of stamp)
  pub small : length file ≤ 1048576
  pub lines : IsFileOf users file

-- These users and this stamp were read of a file at a path: it was found to be a plain one which others can't replace,
-- its first bytes were read, and they are the users.
pub record IsReadOf {R A B C : Type 0} (system : Ghosts R A B C) (host : R) (path : List ℕ) (users : List Entry)
    (stamp : Stamp)
    : Type 0 where
  pub held : IsHeldFile system host path
  pub found : system.finds host path (Ok stamp)
  pub plain : IsPlain stamp
  pub file : Vec ℕ Global
  pub read : system.reads host path 1048577 (Ok file)
  pub account : ℕ
  pub runs : system.runs_as host account
  pub are : AreOf account stamp file.items users

-- what is wrong with the file at a path, for an account; the fault names both
module _ (path : List ℕ) (account : ℕ) (stamp : Stamp) (file : List ℕ) where
  abbrev pub IsWrong : UsersFileFault → Type 0
  IsWrong (fault.Foreign at number) =
      (string_bytes at ≡ path) × (number ≡ account) × (IsOwn account (access_of stamp) → ⊥)
  IsWrong (fault.Writable at) = (string_bytes at ≡ path) × (IsClosed (access_of stamp) → ⊥)
  IsWrong (fault.TooLarge at) = (string_bytes at ≡ path) × (1048576 < length file)
  IsWrong (fault.Users at why) = (string_bytes at ≡ path) × Breaks file why
  IsWrong fault.NoMemory = Unit {0}
  IsWrong other = ⊥

module _ {R A B C : Type 0} (system : Ghosts R A B C) (host : R) (path : List ℕ) where
  -- the system doesn't tell what is at the path, or tells that it is no plain file; or a folder is open
  abbrev pub IsUnfound : UsersFileFault → Type 0
  IsUnfound (fault.NoFile at why) = (string_bytes at ≡ path) × (IsLookedFile system host path (Err why.0)
      ⊎ system.finds host path (Err why.0) ⊎ system.reads host path 1048577 (Err why.0))
  IsUnfound (fault.NotPlain at) =
      (string_bytes at ≡ path) × (stamp : Stamp) × system.finds host path (Ok stamp) × (IsPlain stamp → ⊥)
  IsUnfound (fault.Folder at folder) =
      (string_bytes at ≡ path) × (folder.is_above ≡ false) × IsOpenAtFile system host path folder
  IsUnfound fault.NoMemory = Unit {0}
  IsUnfound other = ⊥

  -- why no users are read: nothing was, or what was read is wrong
  abbrev pub IsUnreadOf : UsersFileFault → Type 0
  IsUnreadOf why = IsUnfound why ⊎ ((account : ℕ) × (stamp : Stamp) × (file : Vec ℕ Global)
      × system.runs_as host account × system.finds host path (Ok stamp) × system.reads host path 1048577 (Ok file)
      × IsWrong path account stamp file.items why)

  -- what was read: the users of the file, or why there are none
  abbrev pub IsReadAs : Result (List Entry) UsersFileFault → Type 0
  IsReadAs (Ok users) = (stamp : Stamp) × IsReadOf system host path users stamp
  IsReadAs (Err why) = IsUnreadOf why

  -- the stamp that the system told; None if it told why it can't
  abbrev pub IsFoundAs : Option Stamp → Type 0
  IsFoundAs found = (told : Result Stamp Error) × system.finds host path told × (found ≡ result_ok told)

-- after a fault: a file is read again, and that there is none is known
abbrev pub failed_at : Option Stamp → LastLook
failed_at None = record { known = Some None; failed = Some None }
failed_at (Some stamp) = record { known = None; failed = Some (Some stamp) }

-- what is remembered of a look, which found the file so, and this fault
abbrev pub after_look : Option Stamp → Option UsersFileFault → LastLook → LastLook
after_look found (Some fault.NoMemory) seen = seen
after_look found (Some (fault.NoFile path error)) seen = failed_at found
after_look found (Some (fault.Folder path folder)) seen = failed_at found
after_look found other seen = record { known = Some found; failed = None }

-- such a fault isn't news if it has been told
abbrev pub MayBeTold : Option UsersFileFault → Type 0
MayBeTold (Some (fault.NoFile path error)) = Unit {0}
MayBeTold (Some (fault.Folder path folder)) = Unit {0}
MayBeTold other = ⊥

-- the fault of what was read, if there is one
abbrev pub fault_of : Result (List Entry) UsersFileFault → Option UsersFileFault
fault_of (Ok users) = None
fault_of (Err why) = Some why

-- a fault of a file that is as it was when such a fault was told
abbrev pub IsTold : Option Stamp → LastLook → Option UsersFileFault → Type 0
IsTold found seen why = MayBeTold why × (seen.failed ≡ Some found)

-- what was read is the news, unless it is a fault that has been told
abbrev pub Tells : Option Stamp → LastLook → Result (List Entry) UsersFileFault
    → Option (Result (List Entry) UsersFileFault) → Type 0
Tells found seen read None = IsTold found seen (fault_of read)
Tells found seen read (Some news) = (news ≡ read) × (IsTold found seen (fault_of read) → ⊥)

module _ {F : Type 0} (finds : F → Option Stamp → Type 0)
    (reads : F → Result (List Entry) UsersFileFault → Type 0) where
  -- The file was found as it was at the last look, and there is no news. Or it has changed and was read, and that is
  -- the news.
  abbrev pub LooksAt : F → LastLook → Option (Result (List Entry) UsersFileFault) → LastLook → Type 0
  LooksAt file old news new = (found : Option Stamp) × finds file found
      × (((old.known ≡ Some found) × (news ≡ None) × (new ≡ old))
      ⊎ ((old.known ≡ Some found → ⊥) × (read : Result (List Entry) UsersFileFault) × reads file read
      × (new ≡ after_look found (fault_of read) old) × Tells found old read news))

-- ---- what is known

abbrev pub later : ℕ → ℕ
later count = min (count + 1) (2 ^ 64 - 1)

-- a look is asked for that begins after those that were begun; the answer is its number
abbrev pub Asks : Looks → ℕ → Looks → Type 0
Asks old number new = (number ≡ later old.begun) × (new ≡ record old { wanted = number })

-- what a loop learns that has the users of this count: the users if they are others
pub record Knows (looks : Looks) (count : ℕ) (known : KnownUsers) : Type 0 where
  pub look : known.look ≡ looks.done
  pub count_is : known.count ≡ looks.count
  pub users : known.users ≡ (if looks.count == count then None else looks.users)

-- without memory for a copy of other users nothing is told
abbrev pub TellsOf : Looks → ℕ → Option KnownUsers → Type 0
TellsOf looks count (Some known) = Knows looks count known
TellsOf looks count None = looks.count ≡ count → ⊥

-- users of a file are taken if the first of them is the session's owner
abbrev pub with_users : UserId → UserId → List Entry → Looks → Looks
with_users owner first users looks =
    if same_user first owner then
    record looks { users = Some users; count = later looks.count; news = Some news.Anew }
    else record looks { news = Some news.OtherOwner }

-- what is known after a look: the users of a sound file are taken, and any other file is told
abbrev pub Takes : UserId → Option (Result (List Entry) UsersFileFault) → Looks → Looks → Type 0
Takes owner None old new = new ≡ old
Takes owner (Some (Ok users)) old new =
    (first : UserId) × (slice_get (names users) 0 ≡ Some (name_of first))
    × (new ≡ with_users owner first users old)
Takes owner (Some (Err why)) old new = new ≡ record old { news = Some (news.Faulty why) }

-- exactly this look is done, and what it found is taken
abbrev pub Ends : UserId → FoundLook → Looks → Looks → Type 0
Ends owner it old new = Takes owner it.found (record old { done = it.look.0 }) new
