use Rattle.command_lang.proofs.Vocabulary.{◌≡◌, map, take, mask_word}
use Rattle.command_lang.proofs.command_words.mask_words.Given as goal

abbrev pub invariant-loop-mask : goal.invariant-loop-mask
invariant-loop-mask l = l.words ≡ map mask_word (take l.mask-index l.masks)
