use Rattle.std.proofs.Common.{take}
use Rattle.server_sending.proofs.Following.{IsFound}
use Rattle.server_sending.proofs.typists.typist_after.Given as goal

abbrev pub invariant-loop-frame : goal.invariant-loop-frame
invariant-loop-frame l = IsFound l.last (take l.frame-index l.frames) l.next
