use Rattle.std.proofs.Common.{length, ◌-◌}
use Rattle.cells.proofs.Blanks.{AreBegun}
use Rattle.cells.proofs.edits.blank_all.Given as goal

abbrev pub invariant-loop-done : goal.invariant-loop-done
invariant-loop-done l = AreBegun (length l.fn.cells) l.done l.cells

abbrev pub decreases-loop-done : goal.decreases-loop-done
decreases-loop-done l = length l.initial.cells - l.done
