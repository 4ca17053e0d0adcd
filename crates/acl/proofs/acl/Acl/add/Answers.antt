use Rattle.acl.proofs.Vocabulary.{◌∙◌, sym, subst, ap, rules, ◌++◌, IfOk-at_ok, StandsFor, users_of, add_acts}
use Rattle.acl.proofs.FollowingLemmas.{allowed-add_acts, known-among, on_ok_all, is_done}
use Rattle.acl.proofs.acl.Acl.add.Goals as goal

pub returns-clause-done : goal.returns-clause-done
returns-clause-done g c =
    let e = c.conclude.ensures in
    on_ok_all c.conclude.result e.acts e.stands e.follower e.ok
    (λ same stands follower planned edition owner h s all.
    let t = subst (λ t. StandsFor t edition owner h) (sym c.self.view_is) s in
    let given = IfOk-at_ok _ planned c.plan_addition-planned.ensures.ok in
    let acts = ap (λ us. add_acts us c.args.users.names.now c.args.users.objects.now) t.users in
    is_done _ _ c.len-start.result c.args.acts.now.items _ _ _ (g.F.Follower.follows c.args.follower.now)
    (g.F.Follower.follows c.conclude.new.follower)
    (search rules) (given ∙ ap (λ xs. c.args.acts.now.items ++ xs) acts) same stands follower edition owner h t
    (allowed-add_acts edition owner h (users_of owner h) c.args.users.names.now c.args.users.objects.now
    (known-among _ edition owner h t) all))
