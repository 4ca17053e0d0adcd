use Rattle.std.proofs.Common.{◌≡◌, ◌<◌, ℕ}
use Rattle.cells.specs.Page.{line_at}
use Rattle.rebuild.proofs.sameness.has_same_page.Given as goal

abbrev pub invariant-loop-line : goal.invariant-loop-line
invariant-loop-line l = (k : ℕ) → k < l.line → line_at l.a.screen.page k ≡ line_at l.b.screen.page k
