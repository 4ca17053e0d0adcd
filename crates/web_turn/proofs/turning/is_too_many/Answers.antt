use Rattle.web_turn.proofs.turning.is_too_many.Goals as goal

pub returns-then-is_coming : goal.returns-then-is_coming
returns-then-is_coming g c = λ relay there.
    let coming = c.is_coming.ensures.0 c.if-is_coming.true in
    let full = c.is_full.ensures relay there in
    (λ t. (coming, full.0 t), λ both. full.1 both.1)
