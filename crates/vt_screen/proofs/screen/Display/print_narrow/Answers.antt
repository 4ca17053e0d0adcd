use Rattle.vt_screen.proofs.Vocabulary.{ap, ◌∙◌, placed_narrow}
use Rattle.vt_screen.proofs.screen.Display.print_narrow.Goals as goal

pub returns-clause-screen : goal.returns-clause-screen
returns-clause-screen c = c.place_narrow.ensures.screen ∙ ap (placed_narrow c.args.character) c.wrap.ensures.screen
