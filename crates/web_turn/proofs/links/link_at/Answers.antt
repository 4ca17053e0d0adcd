use Rattle.std.proofs.Common.{refl}
use Rattle.web_turn.proofs.links.link_at.Goals as goal

pub returns-in_default-clause-none : goal.returns-in_default-clause-none
returns-in_default-clause-none c = λ _ name token stands. c.in_default.ensures.none refl name token stands.0 stands.1
