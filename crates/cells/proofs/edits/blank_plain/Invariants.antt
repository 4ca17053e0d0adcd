use Rattle.cells.proofs.OverPlain.{AreBlanked}
use Rattle.cells.proofs.edits.blank_plain.Given as goal

abbrev pub invariant-loop-column : goal.invariant-loop-column
invariant-loop-column l = AreBlanked l.from l.fn.cells l.column l.cells
