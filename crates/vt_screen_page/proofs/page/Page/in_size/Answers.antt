use Rattle.std.proofs.Common.{List, ap, ◌∙◌}
use Rattle.std.specs.List.{range_with_len}
use Rattle.cells.specs.declared.cell.Cell.{Cell}
use Rattle.cells.specs.Resizing.{page_resized}
use Rattle.vt_screen_page.specs.Store.{Placed}
use Rattle.vt_screen_page.proofs.Sizes.{resized_in_order}
use Rattle.vt_screen_page.proofs.page.Page.in_size.Goals as goal

pub invariant_of-result : goal.invariant_of-result
invariant_of-result c = rw
    (c.in_ok-stored.ensures, c.in_ok-places.ensures, c.as_slice.ensures.value, c.as_slice-2.ensures.value)
    (resized_in_order c.args.rows c.args.columns c.requires c.self.invariant).store

pub returns : goal.returns
returns c = rw (c.in_ok-stored.ensures, c.in_ok-places.ensures, c.as_slice.ensures.value, c.as_slice-2.ensures.value)
    (ap (λ (l : List (List Cell)). record { lines = l; places = range_with_len 0 c.args.rows })
    ((resized_in_order c.args.rows c.args.columns c.requires c.self.invariant).lines
    ∙ ap (λ (v : Placed). page_resized c.args.rows c.args.columns v.lines) c.self.view_is))
