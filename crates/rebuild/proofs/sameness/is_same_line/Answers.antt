use Rattle.std.proofs.Common.{sym, ◌∙◌}
use Rattle.rebuild.proofs.Equal.{lists, cells}
use Rattle.rebuild.proofs.sameness.is_same_line.Goals as goal

pub returns : goal.returns
returns c = λ h. lists cells _ _ (sym c.eq.ensures ∙ h)
