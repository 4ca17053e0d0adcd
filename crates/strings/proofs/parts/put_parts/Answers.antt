use Rattle.std.proofs.Common.{ap}
use Rattle.std.specs.Option.{option_map}
use Rattle.strings.proofs.Steps.{parts-blank, parts-go, parts-break, parts-end, less-behind}
use Rattle.strings.proofs.parts.put_parts.Goals as goal
use Rattle.strings.proofs.parts.put_parts.Goals.{in_default, in-len1-up+then-c-eq32}

pub returns-in_default-2 : goal.returns-in_default-2
returns-in_default-2 c =
    parts-break _ _ _ _ _ _ _ c.loop-left.invariant c.in-len1-up.len_at_least c.c-item.is c.if-c-eq32.false
    c.in_ok-behind.ensures (ap (option_map (λ l. l.now)) c.in_default-2.is)

pub loop-left-smaller : goal.loop-left-smaller
loop-left-smaller c = less-behind _ _ _ _ _ _ c.in-len1-up.len_at_least c.c-item.is c.in_ok-behind.ensures
    (ap (option_map (λ l. l.now)) c.in-Some.is)

pub loop-left-preserved : goal.loop-left-preserved
loop-left-preserved c =
    parts-go _ _ _ _ _ _ _ _ c.loop-left.invariant c.in-len1-up.len_at_least c.c-item.is c.if-c-eq32.false
    c.in_ok-behind.ensures (ap (option_map (λ l. l.now)) c.in-Some.is)

pub returns : goal.returns
returns c = elim c.if-left-lt1.branch [
  | in_default w ↦ parts-end _ _ _ _ c.loop-left.invariant w.in_default.len_below
  | in-len1-up+then-c-eq32 w ↦ parts-blank _ _ _ _ _ c.loop-left.invariant w.in-len1-up.len_at_least w.c-item.is
      w.if-c-eq32.true
]
