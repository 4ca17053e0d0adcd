use Rattle.command_lang.proofs.Vocabulary.{◌≡◌, ◌++◌, drop, length, string_bytes, chars, encode_utf8_all, quoted}
use Rattle.command_lang.proofs.spelling.put_quoted.Given as goal

abbrev pub invariant-loop-c : goal.invariant-loop-c
invariant-loop-c l = string_bytes l.fn.out ++ encode_utf8_all (quoted (chars l.text)) ≡ string_bytes l.out ++
    encode_utf8_all (quoted (drop (length l.yielded) (chars l.text)))
