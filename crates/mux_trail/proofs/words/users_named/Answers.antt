use Rattle.std.proofs.Common.{◌∙◌, ap, lit<, rules, tests}
use Rattle.std.proofs.lemmas.Iterator.{items_from_collect}
use Rattle.std.proofs.lemmas.Iterator.Consumers.{YieldsList-from_filter_map}
use Rattle.std.proofs.lemmas.Iterator.Splits.{YieldsList-from_str_split}
use Rattle.std.specs.Str.Iter.{split_has_more, split_pattern, split_text}
use Rattle.acl.specs.Names.{named_by}
use Rattle.line_fields.specs.Parts.{comma}
use Rattle.mux_trail.proofs.words.users_named.Goals as goal

pub returns : goal.returns
returns c =
    let source = c.filter_map.ensures.source in
    items_from_collect _ c.collect.ensures.ran
    (YieldsList-from_filter_map {s = c.filter_map.result} _ named_by
    (YieldsList-from_str_split {s = c.filter_map.result.iter} comma c.args.names.now (lit< tt)
    (ap split_text source ∙ c.split.ensures.text) (ap split_has_more source ∙ c.split.ensures.has_more)
    (ap split_pattern source ∙ c.split.ensures.pattern))
    c.filter_map.ensures.closure (λ x r q k. search (rules, tests)))
