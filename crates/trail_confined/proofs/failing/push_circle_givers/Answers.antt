use Rattle.trail_confined.proofs.Vocabulary.{◌≡◌, ◌∙◌, ◌++◌, subst, OnOk, givers_text, from_none}
use Rattle.trail_confined.proofs.failing.push_circle_givers.Goals as goal

pub returns : goal.returns
returns c = λ edition owner h stands.
    subst
    (λ us. OnOk c.push_givers.result (c.push_givers.new.out.items
    ≡ c.args.out.now.items ++ givers_text c.args.deciders.now c.args.command us))
    (c.as_slice.ensures.value
    ∙ from_none _ _ _ c.new-users.ensures.items (c.in_ok-push_circle.ensures edition owner h stands))
    c.push_givers.ensures
