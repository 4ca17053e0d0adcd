use Rattle.std.proofs.Common.{sym}
use Rattle.hub.proofs.Hub.close.Goals as goal

pub returns-clause-sum : goal.returns-clause-sum
returns-clause-sum g c = λ all. (c.into_inner.result, sym c.close.ensures.trail, c.close.ensures.sum all)
