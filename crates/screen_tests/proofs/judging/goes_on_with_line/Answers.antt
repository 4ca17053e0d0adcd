use Rattle.screen_tests.proofs.judging.goes_on_with_line.Goals as goal

pub loop-cell-preserved : goal.loop-cell-preserved
loop-cell-preserved c = (tt, tt)
