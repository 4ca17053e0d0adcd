use Rattle.std.proofs.Common.{ℕ}
use Rattle.web_turn.specs.Waking.{GoesRounds}
use Rattle.web_turn.proofs.bridge.Bridge.go_on.Given as goal

abbrev pub invariant-rounds : goal.invariant-rounds
invariant-rounds g l = (count : ℕ) × GoesRounds g.S.WebStream g.S.BridgeStream (g.R.TakesLinks.takes l.rt)
    g.P.Waits.waits l.listeners count l.fn.poll l.fn.self l.poll l.self
