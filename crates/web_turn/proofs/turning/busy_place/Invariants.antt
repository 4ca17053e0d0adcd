use Rattle.std.proofs.Common.{ℕ, ◌<◌, ◌≤◌, length}
use Rattle.slab.specs.Slab.{get}
use Rattle.web_turn.specs.Turning.{IsBusyRelay}
use Rattle.web_turn.proofs.turning.busy_place.Given as goal

abbrev pub invariant-places : goal.invariant-places
invariant-places g l = record {
  none : (q : ℕ) → q < l.place → IsBusyRelay (get l.relays q) → ⊥;
  all : length l.relays.slots ≤ l.place-end;
}
