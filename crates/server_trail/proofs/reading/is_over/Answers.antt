use Rattle.std.proofs.Common.{subst}
use Rattle.trail_lines.specs.declared.halt.NextLine.{NextLine}
use Rattle.trail_lines.specs.Lines.{ComesAs, OfKnown}
use Rattle.server_trail.proofs.Files.{over}
use Rattle.server_trail.proofs.reading.is_over.Goals as goal

pub returns-in-Nothing : goal.returns-in-Nothing
returns-in-Nothing g c = λ _.
    let line = c.next_line.new.line.items in
    over _ _ line (subst (λ (came : NextLine). OfKnown (g.R.Read.remaining c.args.reader.now)
    (g.R.Read.remaining c.next_line.new.reader) (ComesAs came line)) c.in-Nothing.is
    c.in_ok-next_line.ensures)
