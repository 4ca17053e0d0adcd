use Rattle.std.proofs.Common.{◌≡◌, ◌<◌, ℕ}
use Rattle.cells.specs.Page.{line_at}
use Rattle.rebuild.proofs.sameness.has_same_kept.Given as goal

abbrev pub invariant-loop-n : goal.invariant-loop-n
invariant-loop-n l = (k : ℕ) → k < l.n → line_at l.a.screen.kept k ≡ line_at l.b.screen.kept k
