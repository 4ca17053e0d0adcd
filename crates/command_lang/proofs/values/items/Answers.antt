use Rattle.command_lang.proofs.Vocabulary.{sym, ◌∙◌, lit<, YieldsList-end, YieldsList-at, YieldsList-from_str_split}
use Rattle.command_lang.proofs.values.items.Goals as goal

pub returns : goal.returns
returns c =
    let e = YieldsList-end
    (YieldsList-at c.into_iter-item-iterator.ensures.into_iter_gives
    (YieldsList-from_str_split 44 c.args.text.now (lit< tt) c.split-item-items.ensures.text
    c.split-item-items.ensures.has_more c.split-item-items.ensures.pattern)) c.loop-item.yielded _
    c.loop-item.yielded_by _ _ c.in-None.is c.next.ensures.steps in
    sym c.loop-item.invariant ∙ e.0
