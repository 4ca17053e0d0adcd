use Rattle.std.proofs.Common.{refl}
use Rattle.vt_screen.proofs.erasing.erase_columns.Goals as goal

pub returns-clause-value : goal.returns-clause-value
returns-clause-value c = rw (c.splice.ensures.lines, c.requires.page.width c.args.state.now.line c.requires.line_inside)
    refl
