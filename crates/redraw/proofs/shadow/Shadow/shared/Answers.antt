use Rattle.std.proofs.Common.{sym, ◌∙◌}
use Rattle.redraw.proofs.shadow.Shadow.shared.Goals as goal

pub invariant_of-result : goal.invariant_of-result
invariant_of-result c = λ v e. c.self.invariant v (sym c.in_ok-shared_view.ensures ∙ e)
