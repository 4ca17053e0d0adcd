use Rattle.std.proofs.Common.{length}
use Rattle.strings.proofs.Cutting.{IsCutTo}
use Rattle.strings.proofs.cut.words_of.Given as goal

abbrev pub invariant-loop-left : goal.invariant-loop-left
invariant-loop-left l = IsCutTo l.cs l.words.items l.left

abbrev pub decreases-loop-left : goal.decreases-loop-left
decreases-loop-left l = length l.left
