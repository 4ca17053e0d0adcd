use Rattle.command_lang.proofs.Vocabulary.{◌≡◌, ◌++◌, drop, string_bytes, encode_utf8_all, printed, printed_words}
use Rattle.command_lang.proofs.spelling.command_line.Given as goal

abbrev pub invariant-loop-word : goal.invariant-loop-word
invariant-loop-word l = printed l.command ≡ string_bytes l.out ++ encode_utf8_all
    (printed_words (drop l.word-index l.word-items))
