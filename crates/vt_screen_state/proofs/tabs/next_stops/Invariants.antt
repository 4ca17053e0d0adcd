use Rattle.std.proofs.Common.{◌≡◌, length}
use Rattle.vt_screen_state.proofs.NextStops.{AreNextFrom, stop_from}
use Rattle.vt_screen_state.proofs.tabs.next_stops.Given as goal

-- the columns from the counter on are done, and the stop is the next one of the column before them
abbrev pub invariant-loop-column : goal.invariant-loop-column
invariant-loop-column l = record {
  size : length l.next ≡ 300;
  done : AreNextFrom l.column l.stops l.next;
  ahead : l.stop ≡ stop_from l.stops l.column;
}
