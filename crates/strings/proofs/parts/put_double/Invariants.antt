use Rattle.std.proofs.Common.{length}
use Rattle.std.specs.String.{string_bytes}
use Rattle.strings.specs.Grammar.{Double}
use Rattle.strings.proofs.Fronts.{IsAhead}
use Rattle.strings.proofs.parts.put_double.Given as goal

abbrev pub invariant-loop-left : goal.invariant-loop-left
invariant-loop-left l = IsAhead Double l.fn.left (string_bytes l.fn.out) (string_bytes l.out) l.left

abbrev pub decreases-loop-left : goal.decreases-loop-left
decreases-loop-left l = length l.left
