use Rattle.command_lang.proofs.Vocabulary.{◌≡◌, ◌++◌, take, string_bytes, items_word}
use Rattle.command_lang.proofs.command_words.put_items.Given as goal

abbrev pub invariant-loop-i : goal.invariant-loop-i
invariant-loop-i l = string_bytes l.out ≡ string_bytes l.fn.out ++ items_word (take l.i l.items)
