use Rattle.web_relay.proofs.Vocabulary.{◌≡◌, ℕ, ◌<◌, ◌≤◌, length, get, AtBoth, HallTurns}
use Rattle.web_relay.proofs.halls.Halls.turn.Given as goal

abbrev pub invariant-places : goal.invariant-places
invariant-places g l = record {
  turned : (q : ℕ) → q < l.place → AtBoth (HallTurns g.S.WebStream) (get l.fn.self.list q) (get l.self.list q);
  rest : (q : ℕ) → l.place ≤ q → get l.self.list q ≡ get l.fn.self.list q;
  same : l.self ≡ record l.fn.self { list = l.self.list };
  all : length l.fn.self.list.slots ≤ l.place-end;
}
