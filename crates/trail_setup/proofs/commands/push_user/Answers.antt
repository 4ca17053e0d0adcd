use Rattle.trail_setup.proofs.Vocabulary.{List, Bool, map, subst, take_more, take_past, PutsAll, all_given, given_line}
use Rattle.trail_setup.proofs.Putting.{maps_next}
use Rattle.trail_setup.proofs.commands.push_user.Goals as goal

pub loop-given-preserved : goal.loop-given-preserved
loop-given-preserved c = λ edition owner h s.
    maps_next (given_line owner h c.args.user) all_given c.loop-given.given-index _ _ _ _
    (take_more all_given c.loop-given.given-index _ c.loop-given-test.true)
    (c.loop-given.invariant edition owner h s) (c.in_ok-push_given.ensures edition owner h s)

pub returns : goal.returns
returns c = λ edition owner h s.
    subst (λ (gs : List (List Bool)). PutsAll (map (given_line owner h c.args.user) gs) c.args.out.now.items
    c.loop-given.out.items) (take_past c.loop-given.given-index all_given c.loop-given-test.false)
    (c.loop-given.invariant edition owner h s)
