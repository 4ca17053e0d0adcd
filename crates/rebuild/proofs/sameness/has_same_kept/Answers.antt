use Rattle.std.proofs.Common.{length, refl, arith}
use Rattle.rebuild.proofs.Same.{page-same}
use Rattle.rebuild.proofs.sameness.has_same_kept.Goals as goal

pub returns : goal.returns
returns c = λ h.
    page-same (length c.args.a.now.screen.kept) c.args.a.now.screen.kept c.args.b.now.screen.kept refl
    (omega (arith, c.kept_count-count.ensures.value, c.kept_count.ensures.value, c.if-count-kept_count.false))
    (λ k l. c.loop-n.invariant k (omega (arith, c.kept_count-count.ensures.value, c.loop-n-test.false)))
