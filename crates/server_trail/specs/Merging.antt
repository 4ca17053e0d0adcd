-- Lines that were put down in any order, and the text that they make in the order of their places.
use Rattle.std.specs.Prelude.{◌≡◌, ℕ, zero, suc, ◌+◌, ◌-◌, ◌^◌, ◌<◌, ◌≤◌, ◌==◌, if◌then◌else◌, List, [], ◌∷◌, ◌++◌}
use Rattle.std.specs.Prelude.{Option, Some, None, IsSome, option_map, vec_len, vec_capacity, sum_by}
use Rattle.std.specs.Ordering.{nat_cmp}
use Rattle.std.specs.BTreeMap as tree
use Rattle.std.specs.declared.alloc.Global.{Global}
use Rattle.std.specs.declared.vec.Vec.{Vec}
use Rattle.server_trail.specs.declared.merge.Merge.{Merge}

-- a place, and the line that was put for it
abbrev pub Placed : Type 0
Placed = ℕ × List ℕ

-- the line of a place: the first that was put for it
abbrev pub line_for : List Placed → ℕ → Option (List ℕ)
line_for [] place = None
line_for (p ∷ put) place = if p.0 == place then Some p.1 else line_for put place

abbrev pub bytes_of : Option (List ℕ) → List ℕ
bytes_of None = []
bytes_of (Some line) = line

-- the lines of the places below n, in their order
unfoldable pub text_below : List Placed → ℕ → List ℕ
text_below put zero = []
text_below put (suc n) = text_below put n ++ bytes_of (line_for put n)

-- the line that came early for a place, and how many bytes all have that did
abbrev pub early_line : Merge → ℕ → Option (List ℕ)
early_line m place =
    option_map (λ (v : Vec ℕ Global). v.items) (tree.get nat_cmp m.early place)

abbrev pub early_bytes : Merge → ℕ
early_bytes m = sum_by (λ (v : Vec ℕ Global). vec_len v) (tree.values m.early)

-- a line was put for each place below `next`; these lines, in their order, are the text that was taken
-- and the text that is ready; each later line that was put is kept
pub record IsInOrder (put : List Placed) (taken : List ℕ) (m : Merge) : Type 0 where
  pub whole : (place : ℕ) → place < m.next → IsSome (line_for put place)
  pub text : taken ++ m.ready.items ≡ text_below put m.next
  pub kept : (place : ℕ) → m.next ≤ place → early_line m place ≡ line_for put place
  pub held : m.held ≡ early_bytes m
  pub last : (place : ℕ) → 2 ^ 64 - 1 ≤ place → line_for put place ≡ None

-- there is room to make ready all that came early
pub record IsMerging (put : List Placed) (taken : List ℕ) (m : Merge) : Type 0 where
  pub in_order : IsInOrder put taken m
  pub room : vec_len m.ready + m.held ≤ vec_capacity m.ready

-- the text has every line up to the first place for which none was put
pub record HasMerged (put : List Placed) (taken : List ℕ) (m : Merge) : Type 0 where
  pub in_order : IsInOrder put taken m
  pub lacks : line_for put m.next ≡ None
