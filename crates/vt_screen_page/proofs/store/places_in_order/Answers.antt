use Rattle.std.proofs.Common.{sym}
use Rattle.vt_screen_page.proofs.Sizes.{range_more}
use Rattle.vt_screen_page.proofs.store.places_in_order.Goals as goal

pub loop-row-preserved : goal.loop-row-preserved
loop-row-preserved c = rw (c.in_ok-push.ensures.items, c.loop-row.invariant) (sym (range_more c.loop-row.row))
