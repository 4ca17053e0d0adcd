use Rattle.std.proofs.Common.{◌||◌, Bool, arith, false, subst}
use Rattle.web_turn.specs.Accepting.{AcceptsAll}
use Rattle.web_turn.proofs.Accepting.{all_came, none_more, one_listener, one_of}
use Rattle.web_turn.proofs.bridge.Bridge.accept_each.Goals as goal

pub loop-listener-init : goal.loop-listener-init
loop-listener-init g c = λ more new all. all

pub loop-listener-preserved : goal.loop-listener-preserved
loop-listener-preserved g c = λ more new rest.
    let makes = g.S.BridgeStream in
    let old = c.loop-listener in
    let first : Bool = c.accept-has_first.result in
    subst (λ (b : Bool). AcceptsAll makes c.args.listeners.now c.args.now c.args.self.now b new)
    (one_of old.has_more first more)
    (old.invariant (first || more) new
    (one_listener makes c.args.now c.args.listeners.now old.listener-index _ old.self c.accept-has_first.new.self new
    first more (omega arith) c.accept-has_first.ensures rest))

pub returns : goal.returns
returns g c =
    let old = c.loop-listener in
    subst (λ (b : Bool). AcceptsAll g.S.BridgeStream c.args.listeners.now c.args.now c.args.self.now b old.self)
    (none_more old.has_more)
    (old.invariant false old.self
    (all_came g.S.BridgeStream c.args.now c.args.listeners.now old.listener-index old.self (omega arith)))
