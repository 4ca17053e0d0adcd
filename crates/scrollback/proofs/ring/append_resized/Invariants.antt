use Rattle.std.proofs.Common.{◌≡◌, ◌++◌, map, take}
use Rattle.circular_buffer.specs.Buffer.{buffer}
use Rattle.cells.specs.Resizing.{line_resized}
use Rattle.scrollback.proofs.ring.append_resized.Given as goal

abbrev pub invariant-loop-line : goal.invariant-loop-line
invariant-loop-line l = l.buffer ≡ buffer
    (l.fn.buffer.items ++ map (line_resized l.columns) (take l.line-index l.lines)) l.fn.buffer.capacity
