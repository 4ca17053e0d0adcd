use Rattle.std.proofs.Common.{◌-◌, ◌∙◌, ap}
use Rattle.std.specs.Option.{option_map, is_some}
use Rattle.strings.proofs.Cutting.{cut-blank, cut-word, cut-less, cut-broken, cut-end}
use Rattle.strings.proofs.cut.words_of.Goals as goal

pub loop-left-preserved-then-c-eq32 : goal.loop-left-preserved-then-c-eq32
loop-left-preserved-then-c-eq32 c = cut-blank _ _ _ _ c.loop-left.invariant c.in-len1-up.len_at_least c.c-item.is
    c.if-c-eq32.true

pub returns-in_default-behind : goal.returns-in_default-behind
returns-in_default-behind c =
    cut-broken _ _ _ _ c.loop-left.invariant c.in-len1-up.len_at_least c.c-item.is c.if-c-eq32.false _ _ _
    c.new-text.ensures.bytes c.in_ok-behind.ensures
    (ap (option_map (λ l. l.now)) c.in_default-behind.is) _ (λ j. c.byte_count-end.ensures j - c.byte_count.ensures j) _
    c.new.ensures _ (c.is_some.ensures ∙ ap is_some c.in_default-behind.is) _ c.in_ok-push.ensures.items

pub loop-left-smaller : goal.loop-left-smaller
loop-left-smaller c =
    cut-less _ _ c.in-len1-up.len_at_least c.c-item.is c.if-c-eq32.false _ _ _ c.new-text.ensures.bytes
    c.in_ok-behind.ensures _ (ap (option_map (λ l. l.now)) c.in-Some.is)

pub loop-left-preserved : goal.loop-left-preserved
loop-left-preserved c =
    cut-word _ _ _ _ c.loop-left.invariant c.in-len1-up.len_at_least c.c-item.is c.if-c-eq32.false _ _ _
    c.new-text.ensures.bytes c.in_ok-behind.ensures
    _ (ap (option_map (λ l. l.now)) c.in-Some.is) _ (λ j. c.byte_count-end.ensures j - c.byte_count.ensures j) _
    c.new.ensures _ (c.is_some.ensures ∙ ap is_some c.in-Some.is) _ c.in_ok-push.ensures.items

pub returns : goal.returns
returns c = cut-end _ _ _ c.loop-left.invariant c.in_default.len_below
