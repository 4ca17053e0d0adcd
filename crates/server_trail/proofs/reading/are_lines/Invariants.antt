use Rattle.std.proofs.Common.{take}
use Rattle.server_trail.specs.Files.{ReadsLines}
use Rattle.server_trail.proofs.reading.are_lines.Given as goal

abbrev pub invariant-loop-place : goal.invariant-loop-place
invariant-loop-place g l = ReadsLines (take l.place l.entries.entries)
    (g.R.Read.remaining l.fn.reader) (g.R.Read.remaining l.reader)
