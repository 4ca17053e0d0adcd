use Rattle.std.proofs.Common.{◌+◌, ◌*◌}
use Rattle.cells.proofs.OverPlain.{AreWritten}
use Rattle.cells.proofs.edits.put_run_over_plain.Given as goal

abbrev pub invariant-loop-place : goal.invariant-loop-place
invariant-loop-place l = AreWritten l.at l.codes l.fn.cells (8 * l.eight + l.place) l.cells

abbrev pub invariant-loop-eight : goal.invariant-loop-eight
invariant-loop-eight l = AreWritten l.at l.codes l.fn.cells (8 * l.eight) l.cells

abbrev pub invariant-loop-column : goal.invariant-loop-column
invariant-loop-column l = AreWritten l.at l.codes l.fn.cells l.column l.cells
