use Rattle.acl.proofs.Vocabulary.{◌≡◌, ◌<◌, ℕ, slice_get, length, Some, UserId, Row, opening_bits, with_window}
use Rattle.acl.proofs.Vocabulary.{mapped_below}
use Rattle.acl.proofs.rows.give_window.Given as goal

abbrev pub invariant-loop-i : goal.invariant-loop-i
invariant-loop-i l = record {
  done : l.rows.entries ≡ mapped_below (λ e. (e.0, with_window l.slot (opening_bits l.masks.entries l.by e.0) e.1)) l.i
      l.fn.rows.entries;
  wide : (j : ℕ) → j < l.i → (k : UserId) (v : Row) → slice_get l.fn.rows.entries j ≡ Some (k, v)
      → length v.windows ≡ 40;
}
