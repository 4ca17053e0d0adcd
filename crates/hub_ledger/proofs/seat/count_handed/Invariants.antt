use Rattle.hub_ledger.proofs.Vocabulary.{◌≡◌, ◌+◌}
use Rattle.hub_ledger.specs.Seats.{handed_in, receipts_in}
use Rattle.hub_ledger.proofs.seat.count_handed.Given as goal

abbrev pub invariant-effects : goal.invariant-effects
invariant-effects g l = record {
  parts : l.share.parts ≡ l.initial.share.parts;
  seat : handed_in l.share.amount ≡ handed_in l.initial.share.amount + l._effect;
  told : receipts_in l.share.amount ≡ receipts_in l.initial.share.amount;
  all : handed_in l.book.total ≡ handed_in l.initial.book.total + l._effect;
  entries : receipts_in l.book.total ≡ receipts_in l.initial.book.total;
}
