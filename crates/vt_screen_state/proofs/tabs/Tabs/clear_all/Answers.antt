use Rattle.std.proofs.Common.{arith}
use Rattle.vt_screen_state.proofs.TabLemmas.{taken-clear}
use Rattle.vt_screen_state.proofs.tabs.Tabs.clear_all.Goals as goal

pub returns : goal.returns
returns c = taken-clear c.self.inside.columns 300 c.self.inside.stops c.args.self.now c.self.view_is
    (omega (arith, c.self.invariant.few)) c.self.invariant.few
