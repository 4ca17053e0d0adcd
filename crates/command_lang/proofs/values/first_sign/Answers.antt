use Rattle.command_lang.proofs.Vocabulary.{rules, tests, YieldsList-from_slice, is_sign}
use Rattle.std.proofs.lemmas.Iterator.Search.{position_from_yields_List}
use Rattle.command_lang.proofs.Signs.{first-or}
use Rattle.command_lang.proofs.values.first_sign.Goals as goal

pub returns : goal.returns
returns c = first-or c.args.text.now _ _
    (position_from_yields_List is_sign _ _ _ c.position.ensures.ran (YieldsList-from_slice c.args.text.now cc)
    (λ x b q k. search (rules, tests))) c.unwrap_or.ensures
