use Rattle.vt_screen.proofs.Widths.{acted_fit}
use Rattle.vt_screen.proofs.screen.Display.apply_row.Goals as goal

pub returns-clause-fit : goal.returns-clause-fit
returns-clause-fit c = acted_fit c.args.self.now c.dispatch.new.self c.args.action c.requires.fit
    c.dispatch.ensures.screen c.dispatch.ensures.lines.width
