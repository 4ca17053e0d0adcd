use Rattle.view.proofs.Vocabulary.{◌≡◌, ◌<◌, ℕ, false, cell_at}
use Rattle.view.proofs.region_rows.are_unprotected.Given as goal

abbrev pub invariant-loop-cell : goal.invariant-loop-cell
invariant-loop-cell l = l.is_any ≡ false → (column : ℕ) → column < l.cell-index
    → (cell_at l.cells column).is_protected ≡ false
