use Rattle.trail_confined.proofs.Vocabulary.{◌∙◌, ◌∷◌, ◌++◌, [], ap, append_assoc, List, UserId}
use Rattle.trail_confined.proofs.premises.push_circle.Goals as goal

pub returns : goal.returns
returns c = λ edition owner h stands.
    let old = c.args.circles.now.items in
    let u = c.args.user in
    c.in_ok-extend_from_slice.ensures.items
    ∙ (ap (λ (l : List UserId). l ++ c.as_slice.result.now) c.in_ok-push.ensures.items
    ∙ (append_assoc old (u ∷ []) c.as_slice.result.now
    ∙ ap (λ (ls : List UserId). old ++ u ∷ ls)
    (c.as_slice.ensures.names ∙ c.leaders_of-leaders.ensures edition owner h stands)))
