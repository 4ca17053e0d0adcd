use Rattle.acl.proofs.Vocabulary.{sym, subst, rules, IfOk-at_ok, StandsFor}
use Rattle.acl.proofs.FollowingLemmas.{allowed-mask_acts, on_ok_all, is_done}
use Rattle.acl.proofs.acl.Acl.mask.Goals as goal

pub returns-clause-done : goal.returns-clause-done
returns-clause-done g c =
    let e = c.conclude.ensures in
    on_ok_all c.conclude.result e.acts e.stands e.follower e.ok
    (λ same stands follower planned edition owner h s.
    let t = subst (λ t. StandsFor t edition owner h) (sym c.self.view_is) s in
    let given = IfOk-at_ok _ planned c.plan_masks-planned.ensures.ok in
    is_done _ _ c.len-start.result c.args.acts.now.items _ _ _ (g.F.Follower.follows c.args.follower.now)
    (g.F.Follower.follows c.conclude.new.follower)
    (search rules) given same stands follower edition owner h t
    (allowed-mask_acts edition owner h c.args.change.by c.args.change.entries.now))
