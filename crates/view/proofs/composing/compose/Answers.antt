use Rattle.view.proofs.Vocabulary.{◌+◌, map, ap, ◌∙◌, place, View, blank-at, part_of}
use Rattle.view.proofs.FreePages.{blank_free}
use Rattle.view.proofs.composing.compose.Goals as goal

pub compose_on-requires-clause-free : goal.compose_on-requires-clause-free
compose_on-requires-clause-free c = λ s rows columns is.
    let r = c.args.rects.now in
    blank_free r (map part_of c.args.panes.now) c.args.status.now s rows columns is c.in-Ok.view c.in-Ok.ensures.size
    (λ l k. ap (λ (v : View). place v.page l k) c.in-Ok.ensures.ok ∙ blank-at (r.status.line + 1) r.status.columns l k)
