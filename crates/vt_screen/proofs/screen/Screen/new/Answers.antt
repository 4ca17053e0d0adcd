use Rattle.vt_screen.proofs.Widths.{starting_fit}
use Rattle.vt_screen.proofs.screen.Screen.new.Goals as goal

pub invariant_of-result : goal.invariant_of-result
invariant_of-result c =
    starting_fit c.in_ok-display.display c.args.rows c.args.columns c.args.keep c.in_ok-display.ensures.size
    c.in_ok-display.ensures.ok c.in_ok-display.ensures.width
