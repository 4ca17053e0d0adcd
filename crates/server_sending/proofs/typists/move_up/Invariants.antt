use Rattle.std.proofs.Common.{◌≡◌, ◌++◌, map, take, drop}
use Rattle.server_sending.specs.Written.{moved_up}
use Rattle.server_sending.proofs.typists.move_up.Given as goal

abbrev pub invariant-loop-i : goal.invariant-loop-i
invariant-loop-i l =
    l.frames ≡ map (moved_up l.written) (take l.i l.initial.frames) ++ drop l.i l.initial.frames
