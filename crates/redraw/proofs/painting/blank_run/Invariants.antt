use Rattle.redraw.proofs.Vocabulary.{◌-◌, ◌≡◌, ◌<◌, ◌≤◌, length, ℕ, blank, cell_at}
use Rattle.redraw.proofs.painting.blank_run.Given as goal

abbrev pub invariant-loop-end : goal.invariant-loop-end
invariant-loop-end l = (l.from ≤ l.end) × (l.end ≤ length l.cells)
    × ((c : ℕ) → l.from ≤ c → c < l.end → cell_at l.cells c ≡ blank)

abbrev pub decreases-loop-end : goal.decreases-loop-end
decreases-loop-end l = length l.cells - l.end
