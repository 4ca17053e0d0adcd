use Rattle.vt_screen.specs.Displays.{screen_of}
use Rattle.vt_screen.proofs.Widths.{resized_fit}
use Rattle.vt_screen.proofs.screen.Screen.resized.Goals as goal

pub invariant_of-self : goal.invariant_of-self
invariant_of-self c = rw c.in_err-resized.ensures.err c.self.invariant

pub invariant_of-self-2 : goal.invariant_of-self-2
invariant_of-self-2 c =
    resized_fit c.resized.new.self (screen_of c.self.inside.display) c.args.rows c.args.columns
    c.in_ok-resized.ensures.size c.self.invariant.sound c.in_ok-resized.ensures.ok c.in_ok-resized.ensures.width
