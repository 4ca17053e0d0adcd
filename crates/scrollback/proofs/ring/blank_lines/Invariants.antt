use Rattle.std.proofs.Common.{◌≡◌, replicate}
use Rattle.circular_buffer.specs.Buffer.{buffer}
use Rattle.cells.specs.Line.{blank}
use Rattle.scrollback.proofs.ring.blank_lines.Given as goal

abbrev pub invariant-loop-row : goal.invariant-loop-row
invariant-loop-row l = l.lines ≡ buffer (replicate l.row (replicate l.columns blank)) l.keep
