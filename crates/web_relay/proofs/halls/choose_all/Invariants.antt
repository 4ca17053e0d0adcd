use Rattle.web_relay.proofs.Vocabulary.{◌≡◌, ℕ, ◌<◌, ◌≤◌, length, get, AtBoth, Chooses}
use Rattle.web_relay.proofs.halls.choose_all.Given as goal

abbrev pub invariant-places : goal.invariant-places
invariant-places g l = record {
  chosen : (q : ℕ) → q < l.place → AtBoth (Chooses l.choice l.now) (get l.fn.halls q) (get l.halls q);
  rest : (q : ℕ) → l.place ≤ q → get l.halls q ≡ get l.fn.halls q;
  all : length l.fn.halls.slots ≤ l.place-end;
}
