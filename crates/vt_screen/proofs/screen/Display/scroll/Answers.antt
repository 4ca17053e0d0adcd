use Rattle.vt_screen.proofs.Vocabulary.{refl, line_at}
use Rattle.vt_screen.proofs.KeptLines.{reverse-with_line}
use Rattle.vt_screen.proofs.screen.Display.scroll.Goals as goal

pub returns-then-self-eq0-clause-screen : goal.returns-then-self-eq0-clause-screen
returns-then-self-eq0-clause-screen c =
    let d = c.args.self.now in
    rw (
      c.scroll_into.ensures.lines,
      c.scroll_into.ensures.kept,
      c.if-self-eq0.true,
      reverse-with_line d.ring.keep
          d.ring.lines (line_at d.page.lines 0),
    ) refl
