use Rattle.std.proofs.Common.{refl}
use Rattle.vt_screen.proofs.Widths.{line_width}
use Rattle.vt_screen.proofs.screen.Display.place_wide.Goals as goal

pub returns-clause-screen : goal.returns-clause-screen
returns-clause-screen c = rw (
  c.advance.ensures,
  c.put_wide.ensures.lines,
  c.left-left.ensures,
  c.following-rest.ensures,
  line_width
      c.args.self.now c.requires.fit,
) refl
