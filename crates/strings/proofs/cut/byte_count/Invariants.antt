use Rattle.std.proofs.Common.{◌≡◌, ◌≤◌, ◌*◌, take}
use Rattle.strings.specs.Grammar.{size}
use Rattle.strings.proofs.cut.byte_count.Given as goal

abbrev pub invariant-loop-c : goal.invariant-loop-c
invariant-loop-c l = (l.count ≡ size (take l.c-index l.cs)) × (l.count ≤ 4 * l.c-index)
