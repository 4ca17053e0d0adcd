-- Who could change a file, or replace what is in a folder.
use Rattle.std.specs.Prelude.{◌≡◌, ◌⊎◌, ℕ, bit_and}
use Rattle.server_users.specs.declared.trust.Access.{Access}
use Rattle.server_users.specs.declared.trust.Flaw.{Flaw}
use Rattle.server_users.specs.declared.trust.Flaw.TheVariants as flaw

-- it belongs to root, or to this account
abbrev pub IsOwn : ℕ → Access → Type 0
IsOwn account at = (at.owner ≡ 0) ⊎ (at.owner ≡ account)

-- neither its group nor others may write it
abbrev pub IsClosed : Access → Type 0
IsClosed at = bit_and at.mode 0o022 ≡ 0

-- only its owner may rename or remove a file in it
abbrev pub IsSticky : Access → Type 0
IsSticky at = bit_and at.mode 0o1000 ≡ 0 → ⊥

-- nobody but the account and root can change the file
pub record IsKept (account : ℕ) (file : Access) : Type 0 where
  pub own : IsOwn account file
  pub closed : IsClosed file

-- nobody but the account and root can replace what is theirs in the folder
pub record IsKeptFolder (account : ℕ) (folder : Access) : Type 0 where
  pub own : IsOwn account folder
  pub closed : IsClosed folder ⊎ IsSticky folder

-- why others can
abbrev pub Lets : ℕ → Access → Flaw → Type 0
Lets account file flaw.Owner = IsOwn account file → ⊥
Lets account file flaw.Mode = IsOwn account file × (IsClosed file → ⊥)

abbrev pub LetsInto : ℕ → Access → Flaw → Type 0
LetsInto account folder flaw.Owner = IsOwn account folder → ⊥
LetsInto account folder flaw.Mode = IsOwn account folder × (IsClosed folder → ⊥) × (IsSticky folder → ⊥)
