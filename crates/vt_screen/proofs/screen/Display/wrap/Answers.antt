use Rattle.vt_screen.proofs.Widths.{next_line_fit}
use Rattle.vt_screen.proofs.screen.Display.wrap.Goals as goal

pub returns-then-is_due-clause-fit : goal.returns-then-is_due-clause-fit
returns-then-is_due-clause-fit c = next_line_fit c.args.self.now c.go_to_next_line.new.self c.requires
    c.go_to_next_line.ensures.screen c.go_to_next_line.ensures.lines.width
