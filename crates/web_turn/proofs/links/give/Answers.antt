use Rattle.std.proofs.Common.{inr, refl}
use Rattle.web_turn.proofs.links.give.Goals as goal

pub returns-in-None : goal.returns-in-None
returns-in-None g c = inr ((λ name token stands. c.in-None.ensures.none refl name token stands), c.refuse.ensures)
