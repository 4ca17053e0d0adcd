use Rattle.std.proofs.Common.{ap, sym}
use Rattle.keys.specs.Grammar.{items_from}
use Rattle.keys.specs.Kept.{rest_of}
use Rattle.client_typing.specs.Fitting.{awaits_key}
use Rattle.client_typing.proofs.Assisted.{begins-at}
use Rattle.client_typing.proofs.typing.Typing.begin.Goals as goal

pub invariant_of-self : goal.invariant_of-self
unfolding items_from
invariant_of-self c = record { begun = ap awaits_key c.new-self.ensures.stands }

pub returns-clause-begins : goal.returns-clause-begins
unfolding items_from
returns-clause-begins c = begins-at (rest_of c.new-self.result) (sym c.new-self.ensures.stands)
