use Rattle.cells.proofs.Vocabulary.{◌+◌, length, cut_of}
use Rattle.cells.proofs.Putting.{IsPutSoFar}
use Rattle.cells.proofs.edits.put.Given as goal

abbrev pub invariant-loop-column : goal.invariant-loop-column
invariant-loop-column l = IsPutSoFar l.at l.fresh (cut_of (l.at + length l.fresh) (cut_of l.at l.fn.cells)) l.column
    l.cells
