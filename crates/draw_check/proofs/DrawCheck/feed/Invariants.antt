use Rattle.std.proofs.Common.{◌≡◌, take}
use Rattle.draw_check.specs.Places.{after}
use Rattle.draw_check.proofs.DrawCheck.feed.Given as goal

abbrev pub invariant-loop-byte : goal.invariant-loop-byte
invariant-loop-byte l = l.self-inside.place ≡ after l.fn.self (take l.byte-index l.bytes)
