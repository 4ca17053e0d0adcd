use Rattle.std.proofs.Common.{take}
use Rattle.vt_screen.proofs.Texts.{none_printed, one_printed}
use Rattle.vt_screen.proofs.screen.Display.print_first.Goals as goal

pub returns-then-is_empty-clause-prints : goal.returns-then-is_empty-clause-prints
returns-then-is_empty-clause-prints c = none_printed c.args.self.now c.requires.fit

pub returns-in_default-clause-prints : goal.returns-in_default-clause-prints
returns-in_default-clause-prints c = none_printed c.args.self.now c.requires.fit

pub returns-clause-prints : goal.returns-clause-prints
returns-clause-prints c =
    one_printed c.args.self.now c.print_code.new.self (take c.in-Some.size c.args.bytes.now) c.in-Some.character
    c.in-Some.ensures.reads c.in-Some.ensures.character c.print_code.ensures.screen c.print_code.ensures.fit
    c.print_code.ensures.lines
