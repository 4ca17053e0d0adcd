use Rattle.strings.proofs.Steps.{single-closes, single-goes, single-ends}
use Rattle.strings.proofs.parts.put_single.Goals as goal

pub returns-then-c-eq39 : goal.returns-then-c-eq39
returns-then-c-eq39 c = single-closes _ _ _ _ _ c.loop-left.invariant c.in-len1-up.len_at_least c.c-item.is
    c.if-c-eq39.true

pub loop-left-preserved : goal.loop-left-preserved
loop-left-preserved c = single-goes _ _ _ _ _ _ c.loop-left.invariant c.in-len1-up.len_at_least c.c-item.is
    c.if-c-eq39.false c.in_ok-push.ensures.bytes

pub returns : goal.returns
returns c = single-ends _ _ _ _ c.loop-left.invariant c.in_default.len_below
