use Rattle.std.proofs.Common.{◌≡◌, ◌++◌, map, take}
use Rattle.session_commands.specs.Asked.{mask_entry}
use Rattle.session_commands.proofs.masks.push_bits.Given as goal

abbrev pub invariant-loop-change : goal.invariant-loop-change
invariant-loop-change l =
    l.entries.items
    ≡ l.fn.entries.items ++ map (mask_entry l.scope) (take l.change-index l.bits)
