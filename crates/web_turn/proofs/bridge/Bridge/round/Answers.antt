use Rattle.std.proofs.Common.{refl, subst}
use Rattle.web_turn.specs.declared.bridge.Bridge.{Bridge}
use Rattle.web_turn.specs.Accepting.{AcceptsIf}
use Rattle.web_turn.proofs.Accepting.{busy_if}
use Rattle.web_turn.proofs.bridge.Bridge.round.Goals as goal

pub returns : goal.returns
returns g c = record {
  came = c.accept_all-has_more.new.self;
  more = c.accept_all-has_more.result;
  accepts = subst (λ (b : Bridge g.row.S.Denot). AcceptsIf g.S.BridgeStream c.args.listeners.now c.args.now b
      c.accept_all-has_more.result c.accept_all-has_more.new.self) c.wake_all.ensures c.accept_all-has_more.ensures;
  turned = c.turn.new.self;
  turns = c.turn.ensures;
  busy = busy_if c.accept_all-has_more.result c.has_work-has_work.result _ c.has_work-has_work.ensures;
  rest = refl;
}
