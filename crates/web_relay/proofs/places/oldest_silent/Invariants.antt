use Rattle.std.proofs.Common.{◌≤◌, length}
use Rattle.web_relay.proofs.Oldest.{Below}
use Rattle.web_relay.proofs.places.oldest_silent.Given as goal

abbrev pub invariant-places : goal.invariant-places
invariant-places g l = record {
  below : Below l.relays l.place l.oldest;
  all : length l.relays.slots ≤ l.place-end;
}
