use Rattle.web_relay.proofs.Vocabulary.{◌≡◌, ℕ, ◌<◌, ◌≤◌, length, get, Renews}
use Rattle.web_relay.specs.Halls.{opening}
use Rattle.web_relay.proofs.halls.Halls.renew.Given as goal

abbrev pub invariant-places : goal.invariant-places
invariant-places g l = record {
  renewed : (q : ℕ) → q < l.place → Renews g.S.BridgeStream.reaches (opening l.around) l.fn.self.next l.self.next q
      (get l.fn.self.list q) (get l.self.list q);
  rest : (q : ℕ) → l.place ≤ q → get l.self.list q ≡ get l.fn.self.list q;
  next : l.fn.self.next ≤ l.self.next;
  same : l.self ≡ record l.fn.self { list = l.self.list; next = l.self.next };
  all : length l.fn.self.list.slots ≤ l.place-end;
}
