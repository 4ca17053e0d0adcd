use Rattle.std.proofs.Common.{ap}
use Rattle.std.specs.Option.{option_map}
use Rattle.strings.proofs.Steps.{double-closes, double-goes, double-breaks, double-ends, less-behind-character}
use Rattle.strings.proofs.parts.put_double.Goals as goal

pub returns-then-c-eq34 : goal.returns-then-c-eq34
returns-then-c-eq34 c = double-closes _ _ _ _ _ c.loop-left.invariant c.in-len1-up.len_at_least c.c-item.is
    c.if-c-eq34.true

pub returns-in_default-2 : goal.returns-in_default-2
returns-in_default-2 c =
    double-breaks _ _ _ _ _ _ _ c.loop-left.invariant c.in-len1-up.len_at_least c.c-item.is c.if-c-eq34.false
    c.in_ok-behind.ensures (ap (option_map (λ l. l.now)) c.in_default-2.is)

pub loop-left-smaller : goal.loop-left-smaller
loop-left-smaller c = less-behind-character _ _ _ _ _ _ c.in-len1-up.len_at_least c.c-item.is c.in_ok-behind.ensures
    (ap (option_map (λ l. l.now)) c.in-Some.is)

pub loop-left-preserved : goal.loop-left-preserved
loop-left-preserved c =
    double-goes _ _ _ _ _ _ _ _ c.loop-left.invariant c.in-len1-up.len_at_least c.c-item.is c.if-c-eq34.false
    c.in_ok-behind.ensures (ap (option_map (λ l. l.now)) c.in-Some.is)

pub returns : goal.returns
returns c = double-ends _ _ _ _ c.loop-left.invariant c.in_default.len_below
