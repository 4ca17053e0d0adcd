use Rattle.std.proofs.Common.{◌≡◌, ◌++◌, take}
use Rattle.line_fields.specs.Texts.{escaped}
use Rattle.line_fields.proofs.texts.push_escaped.Given as goal

abbrev pub invariant-loop-byte : goal.invariant-loop-byte
invariant-loop-byte l = l.out.items ≡ l.fn.out.items ++ escaped l.first (take l.byte-index l.bytes)
