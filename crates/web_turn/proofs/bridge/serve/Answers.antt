use Rattle.std.proofs.Common.{List, inr, subst}
use Rattle.web_streams.specs.declared.connections.WebListener.{WebListener}
use Rattle.web_turn.specs.Waking.{GoesOn}
use Rattle.web_turn.proofs.bridge.serve.Goals as goal

pub returns-in-Ok : goal.returns-in-Ok
returns-in-Ok g c =
    inr (
      c.in-Ok.ensures.ok,
      subst (λ (ls : List WebListener). GoesOn g.S.WebStream g.S.BridgeStream (g.R.TakesLinks.takes c.args.rt.now)
          g.P.Waits.waits ls c.args.poll c.args.bridge c.go_on.result) c.watch_all.ensures.same c.go_on.ensures,
    )
