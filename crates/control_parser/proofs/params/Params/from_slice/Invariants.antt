use Rattle.std.proofs.Common.{◌≡◌, ◌+◌, take}
use Rattle.control_parser.proofs.params.Params.from_slice.Given as goal

abbrev pub invariant-loop-value : goal.invariant-loop-value
invariant-loop-value l = l.params ≡ take (1 + l.value-index) l.values
