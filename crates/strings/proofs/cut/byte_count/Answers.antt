use Rattle.std.proofs.Common.{◌+◌, ap, ◌∙◌, arith}
use Rattle.strings.proofs.Cutting.{count-more}
use Rattle.strings.proofs.cut.byte_count.Goals as goal

pub loop-c-preserved : goal.loop-c-preserved
loop-c-preserved c = (
  ap (λ n. c.loop-c.count + n) c.len_utf8-count.ensures.value
      ∙ count-more _ _ _ _ c.loop-c-test.true c.c-item.is c.loop-c.invariant.0,
  omega (arith, c.loop-c.invariant.1, c.len_utf8-count.ensures.upper_bound),
)
