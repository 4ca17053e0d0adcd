use Rattle.acl.proofs.Vocabulary.{◌∙◌, sym, subst, rules, IfOk-at_ok, StandsFor, users_of, group_fault}
use Rattle.acl.proofs.FollowingLemmas.{allowed-group_acts, known-among, at_ok, on_ok_all, is_done}
use Rattle.acl.proofs.acl.Acl.group.Goals as goal

pub returns-clause-done : goal.returns-clause-done
returns-clause-done g c =
    let e = c.conclude.ensures in
    on_ok_all c.conclude.result e.acts e.stands e.follower e.ok
    (λ same stands follower planned edition owner h s.
    let t = subst (λ t. StandsFor t edition owner h) (sym c.self.view_is) s in
    let given = IfOk-at_ok _ planned c.plan_group-planned.ensures.ok in
    let none = at_ok _ _ planned c.plan_group-planned.ensures.answer in
    is_done _ _ c.len-start.result c.args.acts.now.items _ _ _ (g.F.Follower.follows c.args.follower.now)
    (g.F.Follower.follows c.conclude.new.follower)
    (search rules) given same stands follower edition owner h t
    (allowed-group_acts edition owner h (users_of owner h) c.args.change.name c.args.change.leader
    (known-among _ edition owner h t)
    ((λ i. group_fault (sym t.edition_is i) (sym t.owned i) (sym t.users i) (λ u. sym (t.led u) i)
    c.args.change.name c.args.change.leader) ∙ none)))
