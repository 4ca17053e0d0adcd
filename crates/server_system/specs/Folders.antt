-- Who could replace what is in a folder.
use Rattle.std.specs.Prelude.{◌≡◌, ◌⊎◌, ℕ, Bool, true, false, List, [], Option, Some, None, Result, Ok, Err}
use Rattle.std.specs.Prelude.{IfSome, codes}
use Rattle.std.specs.IoError.{error_kind}
use Rattle.std.specs.Option.{option_flatten}
use Rattle.std.specs.Path.{path_buf_bytes, path_parent}
use Rattle.std.specs.Result.{result_ok}
use Rattle.std.specs.String.{string_bytes}
use Rattle.std.specs.declared.alloc.Global.{Global}
use Rattle.std.specs.declared.io.Error.{Error}
use Rattle.std.specs.declared.io.ErrorKind.TheVariants.{OutOfMemory}
use Rattle.std.specs.declared.path.PathBuf.{PathBuf}
use Rattle.server_users.specs.Trust.{IsKeptFolder, LetsInto}
use Rattle.server_users.specs.declared.trust.Access.{Access}
use Rattle.server_system.specs.declared.folders.OpenFolder.{OpenFolder}
use Rattle.server_system.specs.declared.host.Host.{Ghosts}
use Rattle.server_system.specs.declared.users_file.Stamp.{Stamp}

-- without a folder that is named it is the one in which the program runs
abbrev pub or_here : Option (List ℕ) → List ℕ
or_here None = codes "."
or_here (Some []) = codes "."
or_here (Some folder) = folder

-- the folder that holds what is at a path
abbrev pub holder_of : List ℕ → List ℕ
holder_of path = or_here (path_parent path)

abbrev pub access_of : Stamp → Access
access_of stamp = record { owner = stamp.owner; mode = stamp.mode }

-- no folder was found open, or only one above that of the file
abbrev pub may_pass : Option OpenFolder → Bool
may_pass None = true
may_pass (Some folder) = folder.is_above

module _ (P : List ℕ → Type 0) (first : List ℕ) where
  -- it is so of each folder from the first one up to this one
  pub data GoesUp : Option (List ℕ) → Type 0 where
    Begin : GoesUp (Some first)
    Up : (folder : List ℕ) → GoesUp (Some folder) → P folder → GoesUp (path_parent folder)

  -- what a look found: it is so of all folders up to the root, or of the first one at least if one above it is open
  abbrev pub Looked : Option OpenFolder → Type 0
  Looked None = P first × GoesUp None
  Looked (Some folder) = folder.is_above ≡ true → P first

module _ {R A B C : Type 0} (system : Ghosts R A B C) (host : R) where
  -- a folder was found in which nobody but the account and root can replace what is theirs
  abbrev pub IsTrusted : ℕ → List ℕ → Type 0
  IsTrusted account folder =
      (found : Stamp) × system.finds host folder (Ok found) × IsKeptFolder account (access_of found)

  -- the first open folder, from this one up: by the stamp that was found, others could replace what is in it
  abbrev pub IsFirstOpen : ℕ → List ℕ → OpenFolder → Type 0
  IsFirstOpen account first folder = (folder.account ≡ account)
      × GoesUp (IsTrusted account) first (Some (string_bytes folder.path))
      × (folder.is_above ≡ false → string_bytes folder.path ≡ first)
      × (found : Stamp) × system.finds host (string_bytes folder.path) (Ok found)
      × LetsInto account (access_of found) folder.flaw

  -- the first open folder among those that hold what is at a path, for the account that the program runs as
  abbrev pub IsOpenAt : List ℕ → OpenFolder → Type 0
  IsOpenAt path folder = (account : ℕ) × (there : PathBuf Global) × system.runs_as host account
      × system.leads host (holder_of path) (Ok there) × IsFirstOpen account (path_buf_bytes there) folder

  -- the first open folder among those that hold a file, or among those that hold what the file leads to
  abbrev pub IsOpenAtFile : List ℕ → OpenFolder → Type 0
  IsOpenAtFile path folder = IsOpenAt path folder
      ⊎ ((there : PathBuf Global) × system.leads host path (Ok there) × IsOpenAt (path_buf_bytes there) folder)

  -- the folder that holds what is at a path was found trusted, for the account that the program runs as
  pub record IsHeld (path : List ℕ) : Type 0 where
    pub account : ℕ
    pub runs : system.runs_as host account
    pub folder : PathBuf Global
    pub leads : system.leads host (holder_of path) (Ok folder)
    pub trusted : IsTrusted account (path_buf_bytes folder)

  -- so were the one that holds a file, and the one that holds what the file leads to
  pub record IsHeldFile (path : List ℕ) : Type 0 where
    pub held : IsHeld path
    pub there : PathBuf Global
    pub leads : system.leads host path (Ok there)
    pub held_there : IsHeld (path_buf_bytes there)

  -- a folder's stamp isn't told, or there is no memory
  abbrev pub IsUnseen : Error → Type 0
  IsUnseen why = ((folder : List ℕ) × system.finds host folder (Err why)) ⊎ (error_kind why ≡ OutOfMemory)

  -- what was found of the folders from the first one up, or why that can't be told
  abbrev pub IsClimbed : ℕ → List ℕ → Result (Option OpenFolder) Error → Type 0
  IsClimbed account first (Ok found) =
      Looked (IsTrusted account) first found × IfSome found (IsFirstOpen account first)
  IsClimbed account first (Err why) = IsUnseen why

  -- it isn't told where the folder is that holds what is at a path, or what it is
  abbrev pub IsUntold : List ℕ → Error → Type 0
  IsUntold path why = system.leads host (holder_of path) (Err why) ⊎ IsUnseen why

  -- so of the folders that hold what is at a path
  abbrev pub IsLooked : List ℕ → Result (Option OpenFolder) Error → Type 0
  IsLooked path (Ok found) = (may_pass found ≡ true → IsHeld path) × IfSome found (IsOpenAt path)
  IsLooked path (Err why) = IsUntold path why

  -- so of the folders that hold a file, and of those that hold what the file leads to
  abbrev pub IsLookedFile : List ℕ → Result (Option OpenFolder) Error → Type 0
  IsLookedFile path (Ok found) = (may_pass found ≡ true → IsHeldFile path) × IfSome found (IsOpenAtFile path)
  IsLookedFile path (Err why) = IsUntold path why ⊎ system.leads host path (Err why)
      ⊎ ((there : PathBuf Global) × system.leads host path (Ok there) × IsUntold (path_buf_bytes there) why)

  -- the open folder that was found among those that hold what is at a path, if that is told
  abbrev pub IsSeen : List ℕ → Option OpenFolder → Type 0
  IsSeen path seen = (told : Result (Option OpenFolder) Error) × IsLooked path told
      × (seen ≡ option_flatten (result_ok told))
