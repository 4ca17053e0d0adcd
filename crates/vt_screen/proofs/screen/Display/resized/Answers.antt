use Rattle.vt_screen.proofs.Vocabulary.{refl, resized}
use Rattle.cells.specs.Resizing.{line_resized}
use Rattle.vt_screen.proofs.KeptLines.{reverse-map}
use Rattle.vt_screen.proofs.screen.Display.resized.Goals as goal

pub returns-in-Ok-clause-ok : goal.returns-in-Ok-clause-ok
unfolding resized
returns-in-Ok-clause-ok c =
    rw (
      c.fit.ensures,
      c.new-self.ensures,
      c.fit_saved-self.ensures,
      c.in_ok-page.ensures.ok,
      c.in-Ok.ensures.ok,
      reverse-map (line_resized c.args.columns) c.args.self.now.ring.lines,
    ) refl
