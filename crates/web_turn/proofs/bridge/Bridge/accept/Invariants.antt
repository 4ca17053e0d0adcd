use Rattle.web_turn.specs.Accepting.{AcceptsEach}
use Rattle.web_turn.proofs.bridge.Bridge.accept.Given as goal

abbrev pub invariant-comers : goal.invariant-comers
invariant-comers g l = AcceptsEach g.S.BridgeStream l.listener l.now l.counter l.fn.self l.self
