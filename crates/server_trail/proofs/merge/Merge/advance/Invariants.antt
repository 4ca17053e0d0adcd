use Rattle.std.proofs.Common.{ℕ, List}
use Rattle.std.specs.BTreeMap.{btree_map_len}
use Rattle.server_trail.specs.Merging.{Placed, IsMerging}
use Rattle.server_trail.proofs.merge.Merge.advance.Given as goal

abbrev pub invariant-early : goal.invariant-early
invariant-early l = (put : List Placed) (taken : List ℕ) → IsMerging put taken l.fn.self
    → IsMerging put taken l.self

abbrev pub decreases-early : goal.decreases-early
decreases-early l = btree_map_len l.self.early
