use Rattle.std.specs.Prelude.{◌≡◌, take}
use Rattle.hub_record.proofs.equal.are_same.Given as goal

abbrev pub invariant-places : goal.invariant-places
invariant-places g l = take l.i l.fn.items ≡ take l.i l.fn.other
