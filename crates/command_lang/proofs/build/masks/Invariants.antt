use Rattle.command_lang.proofs.Vocabulary.{◌≡◌, map, take, mask_of, texts_of}
use Rattle.command_lang.proofs.build.masks.Given as goal

abbrev pub invariant-loop-word : goal.invariant-loop-word
invariant-loop-word l = l.masks ≡ map mask_of (texts_of (take l.word-index l.words))
