use Rattle.std.proofs.Common.{◌≡◌, ◌≤◌}
use Rattle.web_relay.specs.Places.{count_below, is_other}
use Rattle.web_relay.proofs.places.others.Given as goal

abbrev pub invariant-numbers : goal.invariant-numbers
invariant-numbers g l = (l.count ≡ count_below (is_other l.place) l.relays l.number) × (l.count ≤ l.number)
