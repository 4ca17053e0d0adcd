use Rattle.mio.specs.Events.{items}
use Rattle.web_turn.proofs.bridge.Bridge.go_round.Goals as goal

pub returns : goal.returns
returns g c = (
  c.longest-longest.result,
  c.longest-longest.ensures,
  c.wait-ended.result,
  items c.wait-ended.new.events,
  c.wait-ended.ensures,
  c.round_after.ensures,
)
