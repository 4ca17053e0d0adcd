use Rattle.std.proofs.Common.{◌≤◌, length}
use Rattle.web_relay.proofs.StandIn.{BestBelow}
use Rattle.web_relay.proofs.halls.Halls.stand_in.Given as goal

abbrev pub invariant-halls : goal.invariant-halls
invariant-halls g l = record {
  below : BestBelow l.size l.self.list l.place l.best;
  all : length l.self.list.slots ≤ l.place-end;
}
