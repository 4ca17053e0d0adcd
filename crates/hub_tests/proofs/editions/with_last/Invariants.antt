use Rattle.std.proofs.Common.{◌≡◌, length}
use Rattle.hub_tests.proofs.editions.with_last.Given as goal

abbrev pub invariant-loop-place : goal.invariant-loop-place
invariant-loop-place l = length l.entries.entries ≡ l.place
