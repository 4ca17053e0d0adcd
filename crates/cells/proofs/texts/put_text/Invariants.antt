use Rattle.std.proofs.Common.{length, ◌+◌, ◌-◌, ◌≤◌}
use Rattle.cells.proofs.Written.{IsWritten}
use Rattle.cells.proofs.texts.put_text.Given as goal

abbrev pub invariant-loop-column : goal.invariant-loop-column
invariant-loop-column l =
    IsWritten l.space.rendition l.space.is_protected l.at l.bytes l.fn.cells l.cells l.column l.last
    l.read × (l.at + l.begun ≤ l.column)

abbrev pub decreases-loop-column : goal.decreases-loop-column
decreases-loop-column l = length l.bytes - l.read
