use Rattle.vt_screen.proofs.Vocabulary.{sym, ◌∙◌, screen_of}
use Rattle.vt_screen.proofs.Known.{IsKnown, known_letter, known_mark, lines_known, printed_known}
use Rattle.vt_screen.proofs.screen.Display.print_beyond.Goals as goal

pub returns-then-is_letter-clause-screen : goal.returns-then-is_letter-clause-screen
returns-then-is_letter-clause-screen c =
    let known : IsKnown c.args.character 1 = known_letter c.args.character (sym c.if-is_letter.ensures) in
    c.print_narrow.ensures.screen ∙ sym (printed_known (screen_of c.args.self.now) c.args.character 1 known)

pub returns-then-is_letter-clause-lines : goal.returns-then-is_letter-clause-lines
returns-then-is_letter-clause-lines c = lines_known c.args.self.now c.print_narrow.new.self c.args.character 1
    (known_letter c.args.character (sym c.if-is_letter.ensures)) c.print_narrow.ensures.lines

pub returns-then-is_mark-clause-screen : goal.returns-then-is_mark-clause-screen
returns-then-is_mark-clause-screen c =
    let known : IsKnown c.args.character 0 = known_mark c.args.character (sym c.if-is_mark.ensures) in
    c.join.ensures.screen ∙ sym (printed_known (screen_of c.args.self.now) c.args.character 0 known)

pub returns-then-is_mark-clause-lines : goal.returns-then-is_mark-clause-lines
returns-then-is_mark-clause-lines c = lines_known c.args.self.now c.join.new.self c.args.character 0
    (known_mark c.args.character (sym c.if-is_mark.ensures))
    (record { width = c.join.ensures.lines.width; places = c.join.ensures.lines.places })
