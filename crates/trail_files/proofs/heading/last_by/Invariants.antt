use Rattle.trail_lines.specs.Lines.{OfKnown}
use Rattle.trail_files.proofs.Behind.{GoesOn}
use Rattle.trail_files.proofs.heading.last_by.Given as goal

abbrev pub invariant-entries : goal.invariant-entries
invariant-entries g l = OfKnown (g.R.Read.remaining l.fn.reader) (g.R.Read.remaining l.reader) (GoesOn l.time l.last)
