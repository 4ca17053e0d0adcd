use Rattle.std.proofs.Common.{◌≡◌, ◌∙◌, subst, IfOk}
use Rattle.std.specs.Str.{chars}
use Rattle.std.proofs.lemmas.Iterator.{YieldsList-from_chars, items_from_collect}
use Rattle.std.proofs.lemmas.Result.{IfOk-at_ok}
use Rattle.strings.specs.Grammar.{IsCut}
use Rattle.strings.proofs.cut.words.Goals as goal

pub returns : goal.returns
returns c =
    let e : c.in_ok-cs.cs.items ≡ chars c.args.line.now = IfOk-at_ok (λ w. w.items ≡ chars c.args.line.now)
    c.in_ok-cs.was
    (items_from_collect {s = c.chars.result} c.collect.result c.collect.ensures.ran
    (YieldsList-from_chars c.args.line.now c.utf8.line cc)) in
    subst (λ l. IfOk c.words_of.result (λ ws. IsCut l ws.items)) (c.as_slice.ensures.value ∙ e) c.words_of.ensures
