use Rattle.redraw.proofs.Vocabulary.{◌-◌, ◌+◌, ◌<◌, ◌≤◌, length, ℕ, IsEndOfUnlike, Page, AreLines, DrawsUpTo}
use Rattle.redraw.proofs.painting.draw_line.Given as goal

abbrev pub invariant-loop-start : goal.invariant-loop-start
invariant-loop-start l = record {
  inside : l.column ≤ length l.before + 1;
  known : l.column < l.known → IsEndOfUnlike l.before l.after l.column l.known;
  draws : (old new : Page) (rows : ℕ) → l.line < rows → rows < 9999 → AreLines old new l.line l.before l.after
      → DrawsUpTo old new rows (length l.after) l.fn.pen l.pen l.line l.column l.fn.out.items l.out.items;
}

abbrev pub decreases-loop-start : goal.decreases-loop-start
decreases-loop-start l = length l.before + 1 - l.column
