use Rattle.std.proofs.Common.{◌≡◌, take}
use Rattle.control_parser.proofs.intermediates.Intermediates.from_slice.Given as goal

abbrev pub invariant-loop-byte : goal.invariant-loop-byte
invariant-loop-byte l = l.intermediates ≡ take l.byte-index l.bytes
