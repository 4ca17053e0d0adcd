use Rattle.std.proofs.Common.{◌≡◌, ℕ, ◌<◌, ◌%◌, ◌==◌, ◌&&◌, not, false, get_or}
use Rattle.vt_screen_state.proofs.tabs.start_stops.Given as goal

abbrev pub invariant-loop-column : goal.invariant-loop-column
invariant-loop-column l = (k : ℕ) → k < l.column → get_or l.stops k false ≡ (not (k == 0) && (k % 8 == 0))
