use Rattle.std.proofs.Common.{◌≤◌, ◌+◌}
use Rattle.client_notice.proofs.notice.cut.Given as goal

abbrev pub invariant-loop : goal.invariant-loop
invariant-loop l = (l.end ≤ l.most) × (l.most ≤ l.end + l.counter)
