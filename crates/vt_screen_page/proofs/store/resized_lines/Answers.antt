use Rattle.std.proofs.Common.{sym}
use Rattle.vt_screen_page.specs.Store.{lines_in_order}
use Rattle.vt_screen_page.proofs.Sizes.{page_resized_more}
use Rattle.vt_screen_page.proofs.store.resized_lines.Goals as goal

pub loop-row-preserved : goal.loop-row-preserved
loop-row-preserved c = rw (c.in_ok-push.ensures.items, c.loop-row.invariant, c.in_ok-resized_line.ensures)
    (sym (page_resized_more c.loop-row.row c.args.columns (lines_in_order c.args.stored.now c.args.places.now)))
