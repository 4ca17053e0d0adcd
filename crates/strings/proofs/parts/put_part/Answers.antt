use Rattle.std.proofs.lemmas.Result.{IfOk-weaker}
use Rattle.strings.proofs.Steps.{single-part, double-part, character-part}
use Rattle.strings.proofs.parts.put_part.Goals as goal

pub returns-then-c-eq39 : goal.returns-then-c-eq39
returns-then-c-eq39 c = IfOk-weaker c.put_single.result _ _ (λ r h. single-part _ _ _ _ _ c.if-c-eq39.true h)
    c.put_single.ensures

pub returns-then-c-eq34 : goal.returns-then-c-eq34
returns-then-c-eq34 c = IfOk-weaker c.put_double.result _ _ (λ r h. double-part _ _ _ _ _ c.if-c-eq34.true h)
    c.put_double.ensures

pub returns-else-c-eq34 : goal.returns-else-c-eq34
returns-else-c-eq34 c = IfOk-weaker c.put_character.result _ _
    (λ r h. character-part _ _ _ _ _ c.if-c-eq39.false c.if-c-eq34.false h) c.put_character.ensures
