use Rattle.view.proofs.Vocabulary.{◌≡◌, ◌<◌, ◌≤◌, ℕ, false, cell_at, shown_cell}
use Rattle.view.proofs.region_rows.unprotect.Given as goal

abbrev pub invariant-loop-column : goal.invariant-loop-column
invariant-loop-column l = record {
  shown : (c : ℕ) → c < l.column → cell_at l.cells c ≡ shown_cell false (cell_at l.fn.cells c);
  same : (c : ℕ) → l.column ≤ c → cell_at l.cells c ≡ cell_at l.fn.cells c;
}
