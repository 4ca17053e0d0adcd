use Rattle.std.proofs.Common.{◌≡◌, ◌↔◌, take}
use Rattle.attach_proto.proofs.token.are_same.Given as goal

abbrev pub invariant-loop-i : goal.invariant-loop-i
invariant-loop-i l = (l.difference ≡ 0) ↔ (take l.i l.ours ≡ take l.i l.theirs)
