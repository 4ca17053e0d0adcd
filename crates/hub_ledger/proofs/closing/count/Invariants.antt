use Rattle.hub_ledger.proofs.Vocabulary.{◌≡◌, ◌+◌, length, vec_len, receipts_of}
use Rattle.std.specs.Prelude.{◌*◌, ◌^◌}
use Rattle.hub_ledger.specs.Closing.{handed_of}
use Rattle.hub_ledger.proofs.closing.count.Given as goal

abbrev pub invariant-merging : goal.invariant-merging
invariant-merging g l = record {
  parts : l.share.parts + length l.rest.items ≡ length l.fn.seats.items;
  amount : l.share.amount + (length (receipts_of l.rest.items) + handed_of l.rest.items * 2 ^ 32)
      ≡ length (receipts_of l.fn.seats.items) + handed_of l.fn.seats.items * 2 ^ 32;
}

abbrev pub decreases-merging : goal.decreases-merging
decreases-merging g l = vec_len l.rest
