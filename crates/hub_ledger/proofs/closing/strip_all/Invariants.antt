use Rattle.hub_ledger.proofs.Vocabulary.{◌≡◌, ◌≤◌, ◌+◌, ℕ, length, take, true, ◌↔◌, slice_get, AreOf, before}
use Rattle.hub_ledger.proofs.Vocabulary.{receipts_of, times}
use Rattle.hub_ledger.specs.Closing.{handed_of}
use Rattle.hub_ledger.proofs.closing.strip_all.Given as goal

abbrev pub invariant-seats : goal.invariant-seats
invariant-seats g l = record {
  done : receipts_of (take l.i l.seats) ≡ before l.place (receipts_of (take l.i l.initial.seats));
  left : (k : ℕ) → l.i ≤ k → slice_get l.seats k ≡ slice_get l.initial.seats k;
  times : l.named ≡ times l.place (receipts_of (take l.i l.initial.seats));
  few : l.named ≤ l.i;
  right : (l.right ≡ true) ↔ AreOf l.place l.entry (receipts_of (take l.i l.initial.seats));
  handed : handed_of l.seats ≡ handed_of l.initial.seats;
  total : l.book.total + length (receipts_of l.initial.seats) ≡ l.initial.book.total + length (receipts_of l.seats);
}
