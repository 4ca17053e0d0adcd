use Rattle.view.proofs.Vocabulary.{◌≡◌, ◌<◌, ◌≤◌, ℕ, true, cell_at, shown_cell}
use Rattle.view.proofs.region_rows.show_cells.Given as goal

abbrev pub invariant-loop-column : goal.invariant-loop-column
invariant-loop-column l = record {
  shown : (c : ℕ) → c < l.column → cell_at l.cells c ≡ shown_cell true (cell_at l.fn.cells c);
  same : (c : ℕ) → l.column ≤ c → cell_at l.cells c ≡ cell_at l.fn.cells c;
}
