use Rattle.std.proofs.Common.{◌≡◌, ◌++◌, take}
use Rattle.session_commands.specs.Asked.{entries_on}
use Rattle.session_commands.proofs.masks.push_mask.Given as goal

abbrev pub invariant-loop-scope : goal.invariant-loop-scope
invariant-loop-scope l =
    l.entries.items
    ≡ l.fn.entries.items ++ entries_on l.bits (take l.scope-index l.scopes)
