use Rattle.std.proofs.Common.{sym}
use Rattle.vt_screen_page.proofs.Sizes.{resized_past}
use Rattle.vt_screen_page.proofs.store.resized_line.Goals as goal

pub returns-else-row-places : goal.returns-else-row-places
returns-else-row-places c = rw
    (sym (resized_past c.args.stored.now c.args.places.now c.args.row c.args.columns c.if-row-places.false))
    c.blank.ensures
