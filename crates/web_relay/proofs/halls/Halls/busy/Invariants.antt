use Rattle.web_relay.proofs.Vocabulary.{ℕ, ◌<◌, ◌≤◌, length, get}
use Rattle.web_relay.specs.Halls.{IsBusyHall}
use Rattle.web_relay.proofs.halls.Halls.busy.Given as goal

abbrev pub invariant-halls : goal.invariant-halls
invariant-halls g l = record {
  none : (q : ℕ) → q < l.place → IsBusyHall (get l.self.list q) → ⊥;
  all : length l.self.list.slots ≤ l.place-end;
}
