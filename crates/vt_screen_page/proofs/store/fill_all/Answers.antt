use Rattle.std.proofs.Common.{◌<◌, List, length, replicate, arith}
use Rattle.std.proofs.lemmas.List.Edits.{map_over_more}
use Rattle.cells.specs.declared.cell.Cell.{Cell}
use Rattle.vt_screen_page.proofs.store.fill_all.Goals as goal

pub loop-line-preserved : goal.loop-line-preserved
loop-line-preserved c =
    let inside : c.loop-line.line-index < length c.args.stored.now = omega arith in
    rw (c.fill.ensures, ← c.line-item.is)
    (map_over_more (λ (line : List Cell). replicate (length line) c.args.cell.now) c.args.stored.now c.loop-line.stored
    c.loop-line.line-index c.line-item.result inside c.loop-line.invariant c.line-item.is)
