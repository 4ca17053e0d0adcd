use Rattle.command_lang.proofs.Vocabulary.{◌∙◌, rules, tests, YieldsList-from_slice, command_named}
use Rattle.std.proofs.lemmas.Iterator.Search.{find_from_yields_List}
use Rattle.command_lang.specs.Names.{is_called, all_names}
use Rattle.command_lang.proofs.rows.command_named.Goals as goal

pub returns : goal.returns
unfolding command_named
returns c =
    let e = find_from_yields_List (is_called c.args.word.now) _ _ c.find.result c.find.ensures.ran
    (YieldsList-from_slice all_names c.iter.ensures.rest) (λ x b q k. search (rules, tests)) in
    c.copied.ensures ∙ e
