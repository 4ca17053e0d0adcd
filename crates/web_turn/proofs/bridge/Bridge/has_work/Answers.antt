use Rattle.std.proofs.Common.{◌∙◌, sym}
use Rattle.web_turn.proofs.Places.{relay_works, hall_works, some_hall}
use Rattle.web_turn.proofs.bridge.Bridge.has_work.Goals as goal

pub returns-then-has_relay : goal.returns-then-has_relay
returns-then-has_relay g c = (
  λ _. relay_works c.args.self.now c.busy_place.result c.busy_place.ensures.some
      (sym c.is_some-has_relay.ensures ∙ c.if-has_relay.true),
  λ _. c.if-has_relay.true,
)

pub returns-else-has_relay : goal.returns-else-has_relay
returns-else-has_relay g c = (
  λ e. hall_works c.args.self.now c.busy.result c.busy.ensures.some (sym c.is_some-has_hall.ensures ∙ e),
  λ work. c.is_some-has_hall.ensures
      ∙ some_hall c.args.self.now c.busy_place.result c.busy.result c.busy_place.ensures.none c.busy.ensures.none
      (sym c.is_some-has_relay.ensures ∙ c.if-has_relay.false) work,
)
