use Rattle.std.proofs.Common.{◌≡◌, ◌≤◌}
use Rattle.web_relay.specs.Places.{count_below, is_neighbour}
use Rattle.web_relay.proofs.places.neighbours.Given as goal

abbrev pub invariant-numbers : goal.invariant-numbers
invariant-numbers g l = (l.count ≡ count_below (is_neighbour l.place l.address) l.relays l.number) ×
    (l.count ≤ l.number)
