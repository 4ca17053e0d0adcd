use Rattle.cells.proofs.Vocabulary.{◌≡◌, replicate, blank}
use Rattle.cells.proofs.grid.blank_lines.Given as goal

abbrev pub invariant-loop-row : goal.invariant-loop-row
invariant-loop-row l = l.lines.items ≡ replicate l.row (replicate l.columns blank)
