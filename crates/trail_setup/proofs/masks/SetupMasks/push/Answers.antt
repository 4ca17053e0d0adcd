use Rattle.trail_setup.proofs.Vocabulary.{List, subst, flat_map, take_more, UserId, take_past, PutsAll, known_in}
use Rattle.trail_setup.proofs.Vocabulary.{parts_by}
use Rattle.trail_setup.proofs.Putting.{flat_next}
use Rattle.trail_setup.proofs.masks.SetupMasks.push.Goals as goal

pub loop-by-preserved : goal.loop-by-preserved
loop-by-preserved c = λ edition owner h s.
    let users = c.args.self.now.users.now in
    flat_next (parts_by c.args.is_later owner h (known_in c.args.self.now) c.args.start.now) users
    c.loop-by.by-index _ _ _ _
    (take_more users c.loop-by.by-index _ c.loop-by-test.true)
    (c.loop-by.invariant edition owner h s) (c.in_ok-push_by.ensures edition owner h s)

pub returns : goal.returns
returns c = λ edition owner h s.
    subst (λ (us : List UserId). PutsAll
    (flat_map (parts_by c.args.is_later owner h (known_in c.args.self.now) c.args.start.now) us)
    c.args.out.now.items c.loop-by.out.items)
    (take_past c.loop-by.by-index c.args.self.now.users.now c.loop-by-test.false)
    (c.loop-by.invariant edition owner h s)
