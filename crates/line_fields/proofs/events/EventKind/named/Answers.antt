use Rattle.std.proofs.Common.{◌∙◌, rules, tests}
use Rattle.std.specs.Str.{bytes_eq}
use Rattle.std.proofs.lemmas.Iterator.{YieldsList-from_slice}
use Rattle.std.proofs.lemmas.Iterator.Search.{find_from_yields_List}
use Rattle.line_fields.specs.Events.{word_of, all_kinds, kind_in}
use Rattle.line_fields.proofs.events.EventKind.named.Goals as goal

pub returns : goal.returns
unfolding kind_in
returns c =
    let e = find_from_yields_List (λ k. bytes_eq (word_of k) c.args.word.now) _ _ c.find.result c.find.ensures.ran
    (YieldsList-from_slice all_kinds c.iter.ensures.rest) (λ x b q k. search (rules, tests)) in
    c.copied.ensures ∙ e
