use Rattle.trail_confined.proofs.Vocabulary.{◌∙◌, from_none}
use Rattle.trail_confined.proofs.Circles.{premises_made}
use Rattle.trail_confined.proofs.premises.premises_of.Goals as goal

pub returns : goal.returns
returns c = λ edition owner h stands.
    from_none _ _ _ c.new-premises.ensures.items c.in_ok-push_premises.ensures
    ∙ premises_made edition owner h c.args.users.now c.in_ok-openers.openers.items c.in_ok-circles.circles.items _ _
    c.as_slice.ensures.value c.as_slice-2.ensures.value (c.in_ok-openers.ensures edition owner h stands)
    (c.in_ok-circles.ensures edition owner h stands)
