use Rattle.std.proofs.lemmas.Result.{IfOk-weaker}
use Rattle.strings.proofs.Steps.{plain-read, escape-read}
use Rattle.strings.proofs.parts.put_character.Goals as goal

pub returns-then-c-eq92 : goal.returns-then-c-eq92
returns-then-c-eq92 c = IfOk-weaker c.put_escaped.result _ _ (λ r h. escape-read _ _ _ _ _ c.if-c-eq92.true h)
    c.put_escaped.ensures

pub returns-in_ok-push : goal.returns-in_ok-push
returns-in_ok-push c = plain-read _ _ _ _ c.if-c-eq92.false c.in_ok-push.ensures.bytes
