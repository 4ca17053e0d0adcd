use Rattle.command_lang.proofs.Vocabulary.{sym, subst, ◌∙◌, inr, true≢false, IfOk-weaker, IfErr-weaker, chars}
use Rattle.command_lang.proofs.Vocabulary.{is_utf8-from_IsUtf8, IsCut, Refuses}
use Rattle.command_lang.proofs.Whole.{no_text, relates, refuses}
use Rattle.command_lang.proofs.reading.command_in.Goals as goal

pub returns-then-line-gt-LONGEST_LINE-clause-err : goal.returns-then-line-gt-LONGEST_LINE-clause-err
returns-then-line-gt-LONGEST_LINE-clause-err c = inr (Refuses.long c.if-line-gt-LONGEST_LINE.true)

pub returns-in_default-clause-err : goal.returns-in_default-clause-err
returns-in_default-clause-err c = inr
    (Refuses.no_text c.if-line-gt-LONGEST_LINE.false (no_text c.args.line.now c.in_default.ensures.cases.0))

pub returns-in-Ok-words-clause-ok : goal.returns-in-Ok-words-clause-ok
returns-in-Ok-words-clause-ok c =
    let e = subst (λ t. IsCut (chars t) c.in-Ok-words.words.items) c.in-Ok.ensures.cases.0 c.in-Ok-words.ensures in
    let d = subst (IsCut (chars c.args.line.now)) (sym c.as_slice.ensures.value) e in
    IfOk-weaker c.command_of.result _ _
    (λ x h. relates c.args.line.now c.as_slice.result.now x c.if-line-gt-LONGEST_LINE.false c.in-Ok.ensures.cases.1
    d h) c.command_of.ensures.ok

pub returns-in-Ok-words-clause-err : goal.returns-in-Ok-words-clause-err
returns-in-Ok-words-clause-err c =
    let e = subst (λ t. IsCut (chars t) c.in-Ok-words.words.items) c.in-Ok.ensures.cases.0 c.in-Ok-words.ensures in
    let d = subst (IsCut (chars c.args.line.now)) (sym c.as_slice.ensures.value) e in
    IfErr-weaker c.command_of.result _ _
    (λ f h. refuses c.args.line.now c.as_slice.result.now f c.if-line-gt-LONGEST_LINE.false c.in-Ok.ensures.cases.1
    d h) c.command_of.ensures.err

pub returns-in-Ok-words-clause-no_text : goal.returns-in-Ok-words-clause-no_text
returns-in-Ok-words-clause-no_text c h e = absurd
    (true≢false (sym (is_utf8-from_IsUtf8 c.args.line.now c.in-Ok.ensures.cases.1) ∙ e))

pub returns-in-Err-clause-no_text : goal.returns-in-Err-clause-no_text
returns-in-Err-clause-no_text c h e = absurd
    (true≢false (sym (is_utf8-from_IsUtf8 c.args.line.now c.in-Ok.ensures.cases.1) ∙ e))
