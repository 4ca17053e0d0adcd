use Rattle.vt_screen.proofs.Vocabulary.{sym, ◌≤◌, ◌∙◌, arith, Code, Print, screen_of}
use Rattle.vt_screen.proofs.Known.{beyond_places, beyond_printed}
use Rattle.vt_screen.proofs.Widths.{acted_fit}
use Rattle.vt_screen.proofs.screen.Display.print_code.Goals as goal

pub returns-then-character-lt160-clause-fit : goal.returns-then-character-lt160-clause-fit
returns-then-character-lt160-clause-fit c = acted_fit c.args.self.now c.print.new.self (Print (Code c.args.character))
    c.requires c.print.ensures.screen c.print.ensures.lines.width

pub returns-else-character-lt160-clause-screen : goal.returns-else-character-lt160-clause-screen
returns-else-character-lt160-clause-screen c =
    let low : 0xA0 ≤ c.args.character = omega arith in
    c.print_beyond.ensures.screen ∙ sym (beyond_printed (screen_of c.args.self.now) c.args.character low)

pub returns-else-character-lt160-clause-fit : goal.returns-else-character-lt160-clause-fit
returns-else-character-lt160-clause-fit c =
    acted_fit c.args.self.now c.print_beyond.new.self (Print (Code c.args.character)) c.requires
    (returns-else-character-lt160-clause-screen c) c.print_beyond.ensures.lines.width

pub returns-else-character-lt160-clause-lines : goal.returns-else-character-lt160-clause-lines
returns-else-character-lt160-clause-lines c =
    let low : 0xA0 ≤ c.args.character = omega arith in
    record {
      width = c.print_beyond.ensures.lines.width;
      places =
          c.print_beyond.ensures.lines.places
          ∙ beyond_places c.args.self.now.state c.args.character c.args.self.now.page.places low;
    }
