use Rattle.std.proofs.Common.{true, arith}
use Rattle.hub_ledger.proofs.Places.{set_more, all_true}
use Rattle.hub_ledger.proofs.waiting.mark_all.Goals as goal

pub loop-i-preserved : goal.loop-i-preserved
loop-i-preserved c = set_more _ _ true c.loop-i.invariant (omega arith)

pub returns : goal.returns
returns c = all_true _ _ c.loop-i.auto.marks (λ k l. c.loop-i.invariant k (omega arith))
