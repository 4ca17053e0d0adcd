-- The users who typed frames, in the order of their names.
use Rattle.std.specs.Prelude.{◌≡◌, Bool, true, false, List, Option, Some, None, map, Contains}
use Rattle.std.specs.Ordering.{is_lt, nat_cmp}
use Rattle.std.specs.Cmp.Lexicographic.{slice_cmp}
use Rattle.acl.specs.declared.user_id.UserId.{UserId}
use Rattle.acl.specs.Names.{name_of}
use Rattle.server_sending.specs.declared.typists.TypedFrame.{TypedFrame}

abbrev pub typists : List TypedFrame → List UserId
typists frames = map (λ (f : TypedFrame). f.user) frames

-- names are in the order of their bytes
abbrev pub comes_before : UserId → UserId → Bool
comes_before first second = is_lt (slice_cmp nat_cmp (name_of first) (name_of second))

abbrev pub follows : Option UserId → UserId → Bool
follows None user = true
follows (Some last) user = comes_before last user

abbrev pub leads : UserId → Option UserId → Bool
leads user None = true
leads user (Some next) = comes_before user next

-- of the users who typed frames and whose names follow this one, the first
pub record IsNextTypist (last : Option UserId) (frames : List TypedFrame) (user : UserId) : Type 0 where
  pub typed : Contains (typists frames) user
  pub behind : follows last user ≡ true
  pub first : (u : UserId) → Contains (typists frames) u → follows last u ≡ true → comes_before u user ≡ false

-- none of them has a name that follows this one
abbrev pub HasNoTypist : Option UserId → List TypedFrame → Type 0
HasNoTypist last frames = (u : UserId) → Contains (typists frames) u → follows last u ≡ false
