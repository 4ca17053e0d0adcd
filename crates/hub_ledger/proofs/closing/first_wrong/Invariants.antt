use Rattle.hub_ledger.proofs.Vocabulary.{◌≡◌, ◌≤◌, ◌+◌, length, before, receipts_of}
use Rattle.hub_ledger.specs.Closing.{handed_of}
use Rattle.hub_ledger.proofs.Stripping.{IsWrongFrom}
use Rattle.hub_ledger.proofs.closing.first_wrong.Given as goal

abbrev pub invariant-places : goal.invariant-places
invariant-places g l = record {
  within : l.place ≤ length l.entries.entries;
  same : before l.place (receipts_of l.seats) ≡ before l.place (receipts_of l.initial.seats);
  wrong : IsWrongFrom l.entries.entries (receipts_of l.initial.seats) l.place l.wrong;
  handed : handed_of l.seats ≡ handed_of l.initial.seats;
  total : l.book.total + length (receipts_of l.initial.seats) ≡ l.initial.book.total + length (receipts_of l.seats);
}

abbrev pub decreases-places : goal.decreases-places
decreases-places g l = l.place
