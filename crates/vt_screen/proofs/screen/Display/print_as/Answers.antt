use Rattle.vt_screen.proofs.Vocabulary.{sym, ap, ◌∙◌, placed_narrow, printed_as, screen_of}
use Rattle.vt_screen.proofs.screen.Display.print_as.Goals as goal

pub returns-then-columns-eq1-clause-screen : goal.returns-then-columns-eq1-clause-screen
returns-then-columns-eq1-clause-screen c =
    c.place_narrow.ensures.screen ∙ ap (placed_narrow c.args.character) c.wrap.ensures.screen
    ∙ sym (ap (λ n. printed_as n c.args.character (screen_of c.args.self.now)) c.if-columns-eq1.true)
