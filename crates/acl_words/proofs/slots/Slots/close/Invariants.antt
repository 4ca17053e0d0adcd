use Rattle.std.proofs.Common.{◌≡◌}
use Rattle.acl_words.specs.Slots.{without_window}
use Rattle.acl_words.proofs.InPlace.{mapped_below}
use Rattle.acl_words.proofs.slots.Slots.close.Given as goal

-- the slots before this index no longer hold the window; the others are unchanged
abbrev pub invariant-loop-i : goal.invariant-loop-i
invariant-loop-i l = l.self.serials ≡ mapped_below (without_window l.window) l.i l.fn.self.serials
