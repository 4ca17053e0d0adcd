use Rattle.session.proofs.Vocabulary.{◌≡◌, ◌++◌, take, string_bytes, escaped}
use Rattle.session.proofs.printing.push_text.Given as goal

abbrev pub invariant-loop-byte : goal.invariant-loop-byte
invariant-loop-byte l = string_bytes l.out ≡ string_bytes l.fn.out ++ escaped (take l.byte-index l.bytes)
