use Rattle.std.proofs.Common.{◌≡◌, Bool, true, false, add-one, arith, refl, rules, subst}
use Rattle.web_turn.specs.Accepting.{AcceptsOne}
use Rattle.web_turn.proofs.bridge.Bridge.accept.Goals as goal

pub comers-init : goal.comers-init
comers-init g c = refl

pub comers-preserved : goal.comers-preserved
comers-preserved g c =
    let came : c.accept_one.result ≡ true = search rules in
    rw add-one (
      c.comers.self,
      c.comers.invariant,
      subst (λ (b : Bool). AcceptsOne g.S.BridgeStream c.args.listener.now c.args.now c.comers.self b
          c.accept_one.new.self) came c.accept_one.ensures,
    )

pub returns-then-not-accept_one : goal.returns-then-not-accept_one
returns-then-not-accept_one g c =
    let none : c.accept_one.result ≡ false = search rules in (
      c.comers.counter,
      c.comers.self,
      c.comers.invariant,
      (
        omega arith,
        subst (λ (b : Bool). AcceptsOne g.S.BridgeStream c.args.listener.now c.args.now c.comers.self b
            c.accept_one.new.self) none c.accept_one.ensures,
      ),
    )

pub returns : goal.returns
returns g c = (c.comers.counter, c.comers.self, c.comers.invariant, (omega arith, refl))
