use Rattle.std.proofs.Common.{◌<◌, length, get_or, arith}
use Rattle.std.proofs.lemmas.List.{get_or_default}
use Rattle.std.proofs.lemmas.List.Edits.{map_over_more}
use Rattle.regions.specs.Layouts.{emptied, empty}
use Rattle.regions.proofs.layout.Layout.close_window.Goals as goal

pub loop-shown-preserved : goal.loop-shown-preserved
loop-shown-preserved c =
    let here = get_or c.loop-shown.shown-items c.loop-shown.shown-index empty in
    let inside : c.loop-shown.shown-index < length c.loop-shown.shown-items = omega arith in
    rw c.without_window.ensures
    (map_over_more (emptied c.args.serial) c.deref_mut-shown-items.result.now c.loop-shown.shown-items
    c.loop-shown.shown-index here c.loop-shown-test.true c.loop-shown.invariant
    (get_or_default c.loop-shown.shown-items c.loop-shown.shown-index empty here inside))
