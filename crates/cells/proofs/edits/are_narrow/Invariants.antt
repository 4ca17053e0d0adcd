use Rattle.cells.specs.Put.{AreNarrowIn}
use Rattle.cells.proofs.edits.are_narrow.Given as goal

abbrev pub invariant-loop-column : goal.invariant-loop-column
invariant-loop-column l = AreNarrowIn l.cells 0 l.column
