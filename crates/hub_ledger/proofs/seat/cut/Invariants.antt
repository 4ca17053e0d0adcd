use Rattle.hub_ledger.proofs.Vocabulary.{◌≡◌, length, Rise, before}
use Rattle.hub_ledger.proofs.seat.cut.Given as goal

abbrev pub invariant-above : goal.invariant-above
invariant-above l = record {
  rise : Rise l.receipts.receipts;
  rest : before l.place l.receipts.receipts ≡ before l.place l.initial.receipts.receipts;
}

abbrev pub decreases-above : goal.decreases-above
decreases-above l = length l.receipts.receipts
