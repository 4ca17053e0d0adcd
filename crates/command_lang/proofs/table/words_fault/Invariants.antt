use Rattle.command_lang.proofs.Vocabulary.{◌≡◌, drop, words_faults, first_of}
use Rattle.command_lang.proofs.table.words_fault.Given as goal

abbrev pub invariant-loop-i : goal.invariant-loop-i
invariant-loop-i l = first_of (words_faults l.taken 0 l.end l.words) ≡ first_of
    (words_faults l.taken l.i l.end (drop l.i l.words))
