use Rattle.command_lang.proofs.Vocabulary.{rules, tests, lit<, YieldsList-from_str_split, is_empty_text}
use Rattle.std.proofs.lemmas.Iterator.Search.{any_from_yields_List}
use Rattle.command_lang.proofs.values.has_empty_item.Goals as goal

pub returns : goal.returns
returns c = any_from_yields_List is_empty_text _ _ _ c.any.ensures.ran
    (YieldsList-from_str_split 44 c.args.text.now (lit< tt) c.split.ensures.text c.split.ensures.has_more
    c.split.ensures.pattern) (λ x b q k. search (rules, tests))
