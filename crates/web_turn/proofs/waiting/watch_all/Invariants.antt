use Rattle.std.proofs.Common.{◌≡◌, ◌<◌, ◌≤◌, length, ℕ, Ok}
use Rattle.web_turn.specs.Waking.{WakesAt}
use Rattle.web_turn.proofs.waiting.watch_all.Given as goal

abbrev pub invariant-listeners : goal.invariant-listeners
invariant-listeners g l = record {
  same : l.listeners ≡ l.fn.listeners;
  so_far : (q : ℕ) → q < l.number → WakesAt (g.P.Waits.wakes l.poll) l.fn.listeners q (Ok tt);
  all : length l.fn.listeners ≤ l.number-end;
}
