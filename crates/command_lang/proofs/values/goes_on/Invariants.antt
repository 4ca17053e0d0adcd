use Rattle.command_lang.proofs.Vocabulary.{◌≡◌, drop, true, goes_on}
use Rattle.command_lang.proofs.values.goes_on.Given as goal

abbrev pub invariant-loop-c : goal.invariant-loop-c
invariant-loop-c l = goes_on true l.text ≡ goes_on l.wanting (drop l.c-index l.text)
