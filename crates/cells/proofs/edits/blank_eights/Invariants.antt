use Rattle.std.proofs.Common.{◌+◌, ◌*◌}
use Rattle.cells.proofs.OverPlain.{AreBlanked}
use Rattle.cells.proofs.edits.blank_eights.Given as goal

abbrev pub invariant-loop-place : goal.invariant-loop-place
invariant-loop-place l = AreBlanked l.from l.fn.cells (8 * l.eight + l.place) l.cells

abbrev pub invariant-loop-eight : goal.invariant-loop-eight
invariant-loop-eight l = AreBlanked l.from l.fn.cells (8 * l.eight) l.cells
