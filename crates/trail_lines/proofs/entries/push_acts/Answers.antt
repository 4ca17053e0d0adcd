use Rattle.trail_lines.proofs.Vocabulary.{refl, take_more, done_text}
use Rattle.trail_lines.proofs.Printing.{mark_more}
use Rattle.trail_lines.proofs.entries.push_acts.Goals as goal

pub loop-act-preserved : goal.loop-act-preserved
loop-act-preserved c =
    mark_more done_text _ _ _ _ _ _ _ _ _ c.loop-act.invariant c.in_ok-extend_from_slice.ensures.items
    c.in_ok-push_act.ensures refl (take_more c.args.acts.now c.loop-act.act-index _ c.loop-act-test.true)
