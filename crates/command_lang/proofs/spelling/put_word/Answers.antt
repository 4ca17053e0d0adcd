use Rattle.command_lang.proofs.Vocabulary.{◌≡◌, ◌++◌, [], ◌∷◌, sym, ◌∙◌, subst, OnOk, string_bytes, on_ok_weaker}
use Rattle.command_lang.proofs.Appends.{pushed, plain_text, quoted_text}
use Rattle.command_lang.proofs.spelling.put_word.Goals as goal

pub returns-then-needs_no_quotes : goal.returns-then-needs_no_quotes
returns-then-needs_no_quotes c =
    subst (λ l. OnOk c.push_str.result (string_bytes c.push_str.new.self ≡ string_bytes c.args.out.now ++ l))
    (plain_text c.args.text.now (sym c.needs_no_quotes.ensures ∙ c.if-needs_no_quotes.true) c.utf8.text)
    (pushed c.push_str.result (string_bytes c.args.out.now) (string_bytes c.push_str.new.self) c.args.text.now
    c.push_str.ensures.bytes)

pub returns-in_ok-put_quoted : goal.returns-in_ok-put_quoted
unfolding lib.Utf8.encode
returns-in_ok-put_quoted c =
    on_ok_weaker c.push-else-needs_no_quotes.result
    (λ e. quoted_text _ _ _ _ c.args.text.now (sym c.needs_no_quotes.ensures ∙ c.if-needs_no_quotes.false)
    c.in_ok-push.ensures.bytes c.in_ok-put_quoted.ensures e)
    (pushed c.push-else-needs_no_quotes.result (string_bytes c.put_quoted.new.out)
    (string_bytes c.push-else-needs_no_quotes.new.self) (0x22 ∷ []) c.push-else-needs_no_quotes.ensures.bytes)
