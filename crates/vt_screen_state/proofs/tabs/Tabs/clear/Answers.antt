use Rattle.std.proofs.Common.{false, arith}
use Rattle.vt_screen_state.proofs.TabLemmas.{taken-set}
use Rattle.vt_screen_state.proofs.tabs.Tabs.clear.Goals as goal

pub returns : goal.returns
returns c = taken-set c.self.inside.columns c.self.inside.stops c.args.self.now c.args.column false c.self.view_is
    (omega (arith, c.self.invariant.few)) c.requires
