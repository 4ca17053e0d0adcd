use Rattle.vt_screen.proofs.Vocabulary.{refl, acted_from}
use Rattle.vt_screen.proofs.screen.Display.erase_cells.Goals as goal

pub returns-clause-screen : goal.returns-clause-screen
unfolding acted_from
returns-clause-screen c = rw (c.settle.ensures, c.erase_columns.ensures.value, c.end_after-end.ensures) refl
