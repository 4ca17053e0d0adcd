use Rattle.trail_setup.proofs.Vocabulary.{List, subst, flat_map, take_more, UserId, take_past, PutsAll, lines_of}
use Rattle.trail_setup.proofs.Putting.{flat_next}
use Rattle.trail_setup.proofs.commands.push_commands.Goals as goal

pub loop-user-preserved : goal.loop-user-preserved
loop-user-preserved c = λ edition owner h s.
    flat_next (lines_of owner h) c.args.users.now c.loop-user.user-index _ _ _ _
    (take_more c.args.users.now c.loop-user.user-index _ c.loop-user-test.true)
    (c.loop-user.invariant edition owner h s) (c.in_ok-push_user.ensures edition owner h s)

pub returns : goal.returns
returns c = λ edition owner h s.
    subst (λ (us : List UserId). PutsAll (flat_map (lines_of owner h) us) c.args.out.now.items c.loop-user.out.items)
    (take_past c.loop-user.user-index c.args.users.now c.loop-user-test.false)
    (c.loop-user.invariant edition owner h s)
