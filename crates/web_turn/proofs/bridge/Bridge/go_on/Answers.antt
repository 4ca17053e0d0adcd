use Rattle.std.proofs.Common.{Result, refl, subst, suc}
use Rattle.std.specs.Prelude.{⊤}
use Rattle.std.specs.declared.io.Error.{Error}
use Rattle.web_turn.specs.Waking.{GoesRound}
use Rattle.web_turn.proofs.bridge.Bridge.go_on.Goals as goal

pub rounds-init : goal.rounds-init
rounds-init g c = (0, (refl, refl))

pub rounds-preserved : goal.rounds-preserved
rounds-preserved g c = (
  suc c.rounds.invariant.0,
  (
    c.rounds.poll,
    c.rounds.self,
    c.rounds.invariant.1,
    subst (λ (r : Result ⊤ Error). GoesRound g.S.WebStream g.S.BridgeStream (g.R.TakesLinks.takes c.args.rt.now)
        g.P.Waits.waits c.args.listeners.now c.rounds.poll c.rounds.self r c.go_round.new.poll c.go_round.new.self)
        c.in-Ok.is c.go_round.ensures,
  ),
)

pub returns-in-Err : goal.returns-in-Err
returns-in-Err g c = (
  c.rounds.invariant.0,
  c.rounds.poll,
  c.rounds.self,
  c.rounds.invariant.1,
  c.go_round.new.poll,
  c.go_round.new.self,
  subst (λ (r : Result ⊤ Error). GoesRound g.S.WebStream g.S.BridgeStream (g.R.TakesLinks.takes c.args.rt.now)
      g.P.Waits.waits c.args.listeners.now c.rounds.poll c.rounds.self r c.go_round.new.poll c.go_round.new.self)
      c.in-Err.is c.go_round.ensures,
)
