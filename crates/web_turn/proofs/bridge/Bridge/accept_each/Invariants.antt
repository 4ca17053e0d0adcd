use Rattle.std.proofs.Common.{Bool, ◌||◌, drop}
use Rattle.web_turn.specs.declared.bridge.Bridge.{Bridge}
use Rattle.web_turn.specs.Accepting.{AcceptsAll}
use Rattle.web_turn.proofs.bridge.Bridge.accept_each.Given as goal

-- whoever comes through the listeners that are left, they come through all
abbrev pub invariant-loop-listener : goal.invariant-loop-listener
invariant-loop-listener g l = (more : Bool) (new : Bridge g.row.S.Denot)
    → AcceptsAll g.S.BridgeStream (drop l.listener-index l.listeners) l.now l.self more new
    → AcceptsAll g.S.BridgeStream l.listeners l.now l.fn.self (l.has_more || more) new
