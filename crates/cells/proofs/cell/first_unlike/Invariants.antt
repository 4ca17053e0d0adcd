use Rattle.cells.proofs.Vocabulary.{◌≤◌, ◌<◌, ℕ, IsAlike}
use Rattle.cells.proofs.cell.first_unlike.Given as goal

abbrev pub invariant-loop-column : goal.invariant-loop-column
invariant-loop-column l = (column : ℕ) → l.from ≤ column → column < l.column → IsAlike l.a l.b column
