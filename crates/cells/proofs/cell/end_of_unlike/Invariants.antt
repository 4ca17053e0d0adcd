use Rattle.cells.proofs.Vocabulary.{◌≤◌, ◌<◌, ℕ, IsUnlike}
use Rattle.cells.proofs.cell.end_of_unlike.Given as goal

abbrev pub invariant-loop-column : goal.invariant-loop-column
invariant-loop-column l = (column : ℕ) → l.start ≤ column → column < l.column → IsUnlike l.a l.b column
