use Rattle.trail_lines.proofs.Vocabulary.{refl, take_more, checked_text}
use Rattle.trail_lines.proofs.Printing.{mark_more}
use Rattle.trail_lines.proofs.entries.push_verdicts.Goals as goal

pub loop-verdict-preserved : goal.loop-verdict-preserved
loop-verdict-preserved c =
    mark_more checked_text _ _ _ _ _ _ _ _ _ c.loop-verdict.invariant c.in_ok-extend_from_slice.ensures.items
    c.in_ok-push_verdict.ensures refl
    (take_more c.args.verdicts.now c.loop-verdict.verdict-index _ c.loop-verdict-test.true)
