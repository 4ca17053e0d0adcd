use Rattle.command_lang.proofs.Vocabulary.{◌≡◌, ◌++◌, drop, string_bytes, bits_word}
use Rattle.command_lang.specs.Printing.{bits_behind}
use Rattle.command_lang.proofs.command_words.put_bits.Given as goal

abbrev pub invariant-loop-i : goal.invariant-loop-i
invariant-loop-i l = string_bytes l.fn.out ++ bits_word l.bits ≡ string_bytes l.out ++ bits_behind l.last
    (drop l.i l.bits)
