use Rattle.std.proofs.Common.{◌≡◌, [], false, replicate}
use Rattle.hub_ledger.specs.Routing.{views}
use Rattle.hub_ledger.proofs.waiting.SeatEffects.new.Given as goal

abbrev pub invariant-seats : goal.invariant-seats
invariant-seats l = record {
  lists : views l.lists.items ≡ replicate l._seat [];
  marks : l.marks.items ≡ replicate l._seat false;
}
