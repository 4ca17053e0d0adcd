use Rattle.command_lang.proofs.Vocabulary.{◌≡◌, ◌<◌, ◌^◌, true, take, list_all, is_digit, number_after}
use Rattle.command_lang.proofs.values.number.Given as goal

abbrev pub invariant-loop-c : goal.invariant-loop-c
invariant-loop-c l = (number_after 0 (take l.c-index l.text) ≡ l.n) × (list_all is_digit (take l.c-index l.text) ≡ true)
    × (l.n < 10 ^ l.c-index)
