use Rattle.cells.proofs.Vocabulary.{◌≡◌, min, List, length, take, sym, ap, ◌∙◌, Cell, line_resized}
use Rattle.cells.proofs.Resizing.{resized_is}
use Rattle.cells.proofs.line.Line.resized.Goals as goal

pub returns : goal.returns
returns c =
    let items : List Cell = c.self.inside.cells.items in
    let n : c.min-kept.result ≡ min c.args.width (length items) = c.min-kept.ensures
    ∙ ap (min c.args.width) (c.width.ensures ∙ ap length (sym c.self.view_is)) in
    let fresh : take c.min-kept.result c.deref.result.now ≡ take (min c.args.width (length items)) items = ap
    (λ k. take k c.deref.result.now) n ∙ ap (take (min c.args.width (length items))) c.deref.ensures.value in
    c.put.ensures
    ∙ resized_is c.args.width items (take c.min-kept.result c.deref.result.now) c.self.invariant.used_part.paired
    fresh c.in_ok-line.line c.in_ok-line.ensures
    ∙ ap (line_resized c.args.width) c.self.view_is
