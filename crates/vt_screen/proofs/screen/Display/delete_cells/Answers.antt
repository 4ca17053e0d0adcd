use Rattle.vt_screen.proofs.Vocabulary.{refl, acted_from}
use Rattle.vt_screen.proofs.Widths.{line_width}
use Rattle.vt_screen.proofs.screen.Display.delete_cells.Goals as goal

pub returns-clause-screen : goal.returns-clause-screen
unfolding acted_from
returns-clause-screen c = rw
    (c.settle.ensures, c.splice.ensures.lines, c.end_after-rest.ensures, line_width c.args.self.now c.requires.fit) refl
