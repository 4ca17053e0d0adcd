use Rattle.command_lang.proofs.Vocabulary.{◌≡◌, ◌++◌, drop, bits_of, bits_after}
use Rattle.command_lang.proofs.values.bits.Given as goal

abbrev pub invariant-loop-c : goal.invariant-loop-c
invariant-loop-c l = bits_of l.text ≡ l.changes ++ bits_after l.value (drop l.c-index l.text)
