use Rattle.acl.proofs.Vocabulary.{◌∙◌, sym, subst, rules, IfOk-at_ok, StandsFor, users_of, known_name_fault}
use Rattle.acl.proofs.FollowingLemmas.{allowed-removal_acts, on_ok_all, is_done, at_ok}
use Rattle.acl.proofs.acl.Acl.remove.Goals as goal

pub returns-clause-done : goal.returns-clause-done
returns-clause-done g c =
    let e = c.conclude.ensures in
    on_ok_all c.conclude.result e.acts e.stands e.follower e.ok
    (λ same stands follower planned edition owner h s.
    let t = subst (λ t. StandsFor t edition owner h) (sym c.self.view_is) s in
    let given = IfOk-at_ok _ planned c.plan_removal-planned.ensures.ok in
    let none = at_ok _ _ planned c.plan_removal-planned.ensures.answer in
    is_done _ _ c.len-start.result c.args.acts.now.items _ _ _ (g.F.Follower.follows c.args.follower.now)
    (g.F.Follower.follows c.conclude.new.follower)
    (search rules) given same stands follower edition owner h t
    (allowed-removal_acts edition owner h (users_of owner h) c.args.name
    ((λ i. known_name_fault (sym t.owned i) (sym t.users i) c.args.name) ∙ none)))
