use Rattle.trail_setup.proofs.Vocabulary.{List, subst, sym, take, take_more, Act, FollowsEach}
use Rattle.trail_setup.proofs.Keeping.{each_more}
use Rattle.trail_setup.proofs.state.SetupState.follow_all.Goals as goal

pub loop-act-preserved : goal.loop-act-preserved
loop-act-preserved c =
    let acts = c.args.acts.now in
    let i = c.loop-act.act-index in
    subst (λ (done : List Act). FollowsEach done c.args.self.now c.follow.new.self)
    (sym (take_more acts i _ c.loop-act-test.true))
    (each_more (take i acts) _ c.args.self.now c.loop-act.self c.follow.new.self c.loop-act.invariant
    c.in_ok-follow.ensures)
