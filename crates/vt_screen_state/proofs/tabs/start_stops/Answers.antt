use Rattle.std.proofs.Common.{◌<◌, length, arith}
use Rattle.vt_screen_state.proofs.TabLemmas.{starting_tabs-is}
use Rattle.vt_screen_state.proofs.tabs.start_stops.Goals as goal

pub returns : goal.returns
returns c = starting_tabs-is (length c.args.stops.now) c.loop-column.stops (omega arith)
    (λ k h. let below : k < c.loop-column.column = omega arith in c.loop-column.invariant k below)
