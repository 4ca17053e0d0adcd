use Rattle.std.proofs.Common.{◌≡◌, length}
use Rattle.hub_tests.proofs.entries.trail.Given as goal

abbrev pub invariant-loop-place : goal.invariant-loop-place
invariant-loop-place l = length l.list.entries ≡ l.place
