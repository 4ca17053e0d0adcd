use Rattle.hub_ledger.proofs.Vocabulary.{◌≡◌, ◌+◌, length, [], AreNumbered, NoneAsks, receipts_of}
use Rattle.hub_ledger.proofs.ledger.make_seats.Given as goal

abbrev pub invariant-seats : goal.invariant-seats
invariant-seats g l = record {
  made : length l.made.items ≡ l.number;
  told : receipts_of l.made.items ≡ [];
  numbers : AreNumbered l.made.items;
  asks : NoneAsks l.made.items;
  parts : l.all.parts + l.number ≡ g.L.Ledger.parts;
  amount : l.all.amount ≡ 0;
}
