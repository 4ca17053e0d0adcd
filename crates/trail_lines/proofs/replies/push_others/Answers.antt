use Rattle.std.proofs.lemmas.List.{take_more}
use Rattle.trail_lines.proofs.Printing.{one_more}
use Rattle.trail_lines.proofs.replies.push_others.Goals as goal

pub loop-leader-preserved : goal.loop-leader-preserved
loop-leader-preserved c =
    one_more _ _ _ _ _ _ _ c.loop-leader.invariant c.in_ok-extend_from_slice.ensures.items c.in_ok-push_name.ensures
    (take_more c.args.others.now c.loop-leader.leader-index _ c.loop-leader-test.true)
