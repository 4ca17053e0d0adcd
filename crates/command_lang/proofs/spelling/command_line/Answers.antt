use Rattle.command_lang.proofs.Vocabulary.{◌++◌, sym, ◌∙◌, ap, string_bytes, encode_utf8_all, name_text, printed_words}
use Rattle.command_lang.proofs.Vocabulary.{words_of}
use Rattle.command_lang.proofs.Appends.{printed_is, words-more}
use Rattle.command_lang.proofs.spelling.command_line.Goals as goal

pub loop-word-init : goal.loop-word-init
loop-word-init c =
    printed_is c.args.command.now
    ∙ ap (λ l. l ++ encode_utf8_all (printed_words (words_of c.args.command.now)))
    (sym (c.in_ok-out.ensures.ok ∙ c.name_text.ensures ∙ ap name_text c.name.ensures))
    ∙ ap (λ l. string_bytes c.in_ok-out.out ++ encode_utf8_all (printed_words l))
    (sym (c.as_slice-word-items.ensures ∙ c.in_ok-words.ensures))

pub loop-word-preserved : goal.loop-word-preserved
unfolding lib.Utf8.encode
loop-word-preserved c =
    words-more _ _ _ _ c.as_slice-word-items.result.now _ _ _ c.loop-word-test.true c.word-item.is
    c.as_str.ensures.value c.loop-word.invariant c.in_ok-push.ensures.bytes c.in_ok-put_word.ensures
