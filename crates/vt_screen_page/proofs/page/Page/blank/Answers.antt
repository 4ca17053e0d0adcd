use Rattle.std.proofs.Common.{List, replicate, ap}
use Rattle.std.specs.List.{range_with_len}
use Rattle.std.proofs.lemmas.List.{length-replicate}
use Rattle.cells.specs.declared.cell.Cell.{Cell}
use Rattle.cells.specs.Line.{blank}
use Rattle.vt_screen_page.proofs.Sizes.{in_order, IsGrid-blanks}
use Rattle.vt_screen_page.proofs.page.Page.blank.Goals as goal

pub invariant_of-result : goal.invariant_of-result
invariant_of-result c = rw (c.in_ok-stored.ensures, c.in_ok-places.ensures)
    (in_order c.args.rows (replicate c.args.rows (replicate c.args.columns blank)) (length-replicate c.args.rows _)
    (IsGrid-blanks c.args.rows c.args.columns c.requires)).store

pub returns : goal.returns
returns c = rw (c.in_ok-stored.ensures, c.in_ok-places.ensures)
    (ap (λ (l : List (List Cell)). record { lines = l; places = range_with_len 0 c.args.rows })
    (in_order c.args.rows (replicate c.args.rows (replicate c.args.columns blank)) (length-replicate c.args.rows _)
    (IsGrid-blanks c.args.rows c.args.columns c.requires)).lines)
