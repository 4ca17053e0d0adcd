use Rattle.command_lang.proofs.Vocabulary.{ap, ◌∙◌, not, ◌&&◌, rules, tests, YieldsList-from_chars, list_all, chars}
use Rattle.std.proofs.lemmas.Iterator.Search.{all_from_yields_List}
use Rattle.command_lang.specs.Printing.{is_plain}
use Rattle.command_lang.proofs.spelling.needs_no_quotes.Goals as goal

pub returns-then-not-is_empty : goal.returns-then-not-is_empty
returns-then-not-is_empty c =
    let e = all_from_yields_List is_plain _ _ c.all.result c.all.ensures.ran
    (YieldsList-from_chars c.args.text.now c.utf8.text cc) (λ x b q k. search (rules, tests)) in
    e ∙ ap (λ b. not b && list_all is_plain (chars c.args.text.now)) c.if-not-is_empty.ensures
