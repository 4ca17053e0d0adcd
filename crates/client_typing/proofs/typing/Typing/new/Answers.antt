use Rattle.std.proofs.Common.{ap, sym}
use Rattle.keys.specs.Grammar.{items_from}
use Rattle.keys.specs.Kept.{rest_of}
use Rattle.client_typing.specs.Fitting.{awaits_key}
use Rattle.client_typing.proofs.Assisted.{begins-at}
use Rattle.client_typing.proofs.typing.Typing.new.Goals as goal

pub invariant_of-result : goal.invariant_of-result
unfolding items_from
invariant_of-result c = record { begun = ap awaits_key c.new-2.ensures.stands }

pub returns-clause-begins : goal.returns-clause-begins
unfolding items_from
returns-clause-begins c = begins-at (rest_of c.new-2.result) (sym c.new-2.ensures.stands)
