use Rattle.redraw.specs.Shadow.{AreAlikeAbove}
use Rattle.redraw.proofs.shadow.first_unlike.Given as goal

abbrev pub invariant-loop-line : goal.invariant-loop-line
invariant-loop-line l = AreAlikeAbove l.line l.old.page l.new.page
