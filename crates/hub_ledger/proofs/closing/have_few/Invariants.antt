use Rattle.hub_ledger.proofs.Vocabulary.{◌≤◌, length, take, receipts_of}
use Rattle.std.specs.Prelude.{◌*◌}
use Rattle.hub_ledger.specs.declared.ledger.TheConstants.{FULL}
use Rattle.hub_ledger.proofs.closing.have_few.Given as goal

abbrev pub invariant-seats : goal.invariant-seats
invariant-seats g l = length (receipts_of (take l.i l.seats)) ≤ l.i * FULL
