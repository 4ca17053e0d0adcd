use Rattle.std.proofs.Common.{rules, tests}
use Rattle.std.specs.Prelude.{bytes_eq}
use Rattle.std.proofs.lemmas.Iterator.Search.{any_from_yields_List}
use Rattle.std.proofs.lemmas.Iterator.Splits.{YieldsList-from_slice_split}
use Rattle.server_client.proofs.waiting.has_line.Goals as goal

pub returns : goal.returns
returns c =
    any_from_yields_List (λ line. bytes_eq line c.args.wanted.now) _ _ _ c.any.ensures.ran
    (YieldsList-from_slice_split _ _ c.args.lines.now c.split.ensures.rest c.split.ensures.done c.split.ensures.closure
    (λ x r q k. search (rules, tests))) (λ x b q k. search (rules, tests))
