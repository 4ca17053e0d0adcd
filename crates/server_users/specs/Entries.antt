-- The users' file: lines of a name, one blank and a token.
use Rattle.std.specs.Prelude.{◌≡◌, ◌⊎◌, ℕ, ◌+◌, ◌<◌, true, List, [], ◌∷◌, ◌++◌, length, map, All, Contains}
use Rattle.std.specs.List.{flat_map}
use Rattle.acl.specs.Names.{is_name}
use Rattle.attach_proto.specs.Texts.{IsToken}

pub record Entry : Type 0 where
  pub name : List ℕ
  pub token : List ℕ

pub record IsUser (u : Entry) : Type 0 where
  pub name : is_name u.name ≡ true
  pub token : IsToken u.token

abbrev pub names : List Entry → List (List ℕ)
names us = map (λ (u : Entry). u.name) us

-- no name stands twice
abbrev pub HaveOwnNames : List Entry → Type 0
HaveOwnNames [] = Unit {0}
HaveOwnNames (u ∷ us) = (Contains (names us) u.name → ⊥) × HaveOwnNames us

pub record AreUsers (us : List Entry) : Type 0 where
  pub each : All IsUser us
  pub once : HaveOwnNames us

abbrev pub spelled : Entry → List ℕ
spelled u = u.name ++ 0x20 ∷ u.token

-- a line for each
abbrev pub text : List Entry → List ℕ
text us = flat_map (λ (u : Entry). spelled u ++ 0x0A ∷ []) us

-- the file has just these lines; the last line feed may lack
pub record IsFileOf (us : List Entry) (file : List ℕ) : Type 0 where
  pub some : 0 < length us
  pub lines : (file ≡ text us) ⊎ (file ++ 0x0A ∷ [] ≡ text us)

-- no line feed stands in it
abbrev pub IsLine : List ℕ → Type 0
IsLine line = Contains line 0x0A → ⊥

-- the line before it ends here
abbrev pub EndsLine : List ℕ → Type 0
EndsLine [] = Unit {0}
EndsLine (b ∷ more) = b ≡ 0x0A

-- the n-th line is the first that spells no user of a new name; the first one may lack
pub record BreaksAt (file : List ℕ) (n : ℕ) : Type 0 where
  pub earlier : List Entry
  pub line : List ℕ
  pub more : List ℕ
  pub users : AreUsers earlier
  pub number : n ≡ length earlier + 1
  pub begins : file ≡ text earlier ++ (line ++ more)
  pub is_line : IsLine line
  pub ends : EndsLine more
  pub stands : (0 < length (line ++ more)) ⊎ (earlier ≡ [])
  pub wrong : (u : Entry) → IsUser u → (Contains (names earlier) u.name → ⊥) → spelled u ≡ line → ⊥
