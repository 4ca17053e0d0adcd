use Rattle.std.proofs.Common.{◌≤◌, length}
use Rattle.web_turn.specs.Turning.{VisitsAll}
use Rattle.web_turn.proofs.bridge.Bridge.visit_all.Given as goal

abbrev pub invariant-places : goal.invariant-places
invariant-places g l = record {
  visited : VisitsAll g.S.WebStream g.S.BridgeStream (g.R.TakesLinks.takes l.rt) l.now l.place l.fn.self l.self;
  all : length l.fn.self.relays.slots ≤ l.place-end;
}
