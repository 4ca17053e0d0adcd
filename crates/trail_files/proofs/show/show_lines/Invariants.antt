use Rattle.trail_lines.specs.Lines.{OfKnown}
use Rattle.trail_files.proofs.Behind.{ShowsOn}
use Rattle.trail_files.proofs.Shown.{HasShown}
use Rattle.trail_files.proofs.show.show_lines.Given as goal

abbrev pub invariant-lines : goal.invariant-lines
invariant-lines g l = record {
  on : OfKnown (g.R.Read.remaining l.fn.reader) (g.R.Read.remaining l.reader) (ShowsOn l.number);
  shown : OfKnown (g.R.Read.remaining l.fn.reader) (g.R.Read.remaining l.reader)
      (HasShown l.form (g.W.Write.contents l.fn.output) (g.W.Write.contents l.output));
}
