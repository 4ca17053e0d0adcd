use Rattle.windows.proofs.Vocabulary.{◌≡◌, ◌<◌, ◌^◌, true, take, list_all, is_digit, number_after}
use Rattle.windows.proofs.numbers.number_of.Given as goal

abbrev pub invariant-loop-c : goal.invariant-loop-c
invariant-loop-c l = (number_after 0 (take l.c-index l.word) ≡ l.n) × (list_all is_digit (take l.c-index l.word) ≡ true)
    × (l.n < 10 ^ l.c-index)
