use Rattle.command_lang.proofs.Appends.{items-more}
use Rattle.command_lang.proofs.command_words.put_items.Goals as goal

pub loop-i-preserved : goal.loop-i-preserved
loop-i-preserved c = items-more _ _ _ c.args.items.now _ _ _ c.loop-i-test.true c.index-items-i.is
    c.as_str.ensures.value c.loop-i.invariant c.in_ok-put_item.ensures
