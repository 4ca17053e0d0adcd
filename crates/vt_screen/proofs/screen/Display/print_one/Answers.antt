use Rattle.vt_screen.proofs.Vocabulary.{◌≡◌, [], ◌∷◌, true, sym, ◌∙◌, is_letter, screen_of, prints}
use Rattle.vt_screen.proofs.Acted.{all_acted_fit}
use Rattle.vt_screen.proofs.LineRuns.{plain_letter}
use Rattle.vt_screen.proofs.TextRuns.{letter_makes, letter_placed}
use Rattle.vt_screen.proofs.screen.Display.print_one.Goals as goal

pub returns-then-not-self-clause-screen : goal.returns-then-not-self-clause-screen
returns-then-not-self-clause-screen c = c.place_narrow.ensures.screen
    ∙ sym
    (letter_placed (screen_of c.args.self.now) c.args.code (c.takes_runs.ensures.0 c.if-takes_runs.true)
    c.if-not-self.true (plain_letter c.args.code c.requires.plain))

pub returns-then-not-self-clause-fit : goal.returns-then-not-self-clause-fit
returns-then-not-self-clause-fit c = all_acted_fit c.args.self.now c.place_narrow.new.self (prints (c.args.code ∷ []))
    c.requires.fit (returns-then-not-self-clause-screen c) c.place_narrow.ensures.lines.width

pub returns-then-not-self-clause-places : goal.returns-then-not-self-clause-places
returns-then-not-self-clause-places c =
    let letter : is_letter c.args.code ≡ true = plain_letter c.args.code c.requires.plain in
    let made = letter_makes (screen_of c.args.self.now) c.args.code (c.takes_runs.ensures.0 c.if-takes_runs.true)
    c.if-not-self.true letter in
    c.place_narrow.ensures.lines.places ∙ sym (made.places c.args.self.now.page.places)
