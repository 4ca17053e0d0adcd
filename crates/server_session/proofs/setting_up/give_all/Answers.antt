use Rattle.std.proofs.Common.{refl}
use Rattle.server_session.proofs.SettingUp.{done_next, stops_here}
use Rattle.server_session.proofs.setting_up.give_all.Goals as goal

pub loop-line-init : goal.loop-line-init
loop-line-init g c = refl

pub returns-in-Err-clause-stops : goal.returns-in-Err-clause-stops
returns-in-Err-clause-stops g c = stops_here c.args.giver.owner c.args.lines.now c.loop-line.line-index _ c.args.seat.now
    c.loop-line.seat c.give.new.seat c.loop-line-test.true c.loop-line.invariant c.in-Err.fault c.in-Err.ensures.refused

pub loop-line-preserved : goal.loop-line-preserved
loop-line-preserved g c = done_next c.args.giver.owner c.args.lines.now c.loop-line.line-index _ c.args.seat.now
    c.loop-line.seat c.give.new.seat c.loop-line-test.true c.loop-line.invariant c.in_default.ensures.done
