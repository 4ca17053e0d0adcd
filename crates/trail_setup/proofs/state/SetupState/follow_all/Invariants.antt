use Rattle.trail_setup.proofs.Vocabulary.{take, FollowsEach}
use Rattle.trail_setup.proofs.state.SetupState.follow_all.Given as goal

abbrev pub invariant-loop-act : goal.invariant-loop-act
invariant-loop-act l = FollowsEach (take l.act-index l.acts) l.fn.self l.self
