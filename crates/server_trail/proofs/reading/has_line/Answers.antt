use Rattle.std.proofs.Common.{subst}
use Rattle.trail_lines.specs.declared.halt.NextLine.{NextLine}
use Rattle.trail_lines.specs.Lines.{ComesAs, OfKnown}
use Rattle.server_trail.proofs.Files.{cut}
use Rattle.server_trail.proofs.reading.has_line.Goals as goal

pub returns-in-Whole : goal.returns-in-Whole
returns-in-Whole g c = λ _.
    let line = c.next_line.new.line.items in
    cut _ _ line (subst (λ (came : NextLine). OfKnown (g.R.Read.remaining c.args.reader.now)
    (g.R.Read.remaining c.next_line.new.reader) (ComesAs came line)) c.in-Whole.is
    c.in_ok-next_line.ensures)
