use Rattle.std.proofs.Common.{ℕ, ◌-◌, arith, length-set, ◌∙◌}
use Rattle.vt_screen_state.proofs.NextStops.{next-more, stop_from-here, stop_from-further}
use Rattle.vt_screen_state.proofs.tabs.next_stops.Goals as goal

pub loop-column-preserved-then-stops-column : goal.loop-column-preserved-then-stops-column
loop-column-preserved-then-stops-column c =
    let l = c.loop-column in
    let column : ℕ = l.column - 1 in
    record {
      size = length-set l.next column l.stop ∙ l.invariant.size;
      done = next-more c.args.stops.now l.next l.column l.stop column (omega arith) (omega arith)
          (omega arith) l.invariant.done l.invariant.ahead;
      ahead = stop_from-here c.args.stops.now column (omega arith) c.if-stops-column.true;
    }

pub loop-column-preserved : goal.loop-column-preserved
loop-column-preserved c =
    let l = c.loop-column in
    let column : ℕ = l.column - 1 in
    record {
      size = length-set l.next column l.stop ∙ l.invariant.size;
      done = next-more c.args.stops.now l.next l.column l.stop column (omega arith) (omega arith)
          (omega arith) l.invariant.done l.invariant.ahead;
      ahead = stop_from-further c.args.stops.now l.column l.stop column (omega arith) (omega arith)
          c.if-stops-column.false l.invariant.ahead;
    }
