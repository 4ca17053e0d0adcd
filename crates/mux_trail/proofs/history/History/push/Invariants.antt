use Rattle.std.proofs.Common.{◌≡◌, ◌++◌, take}
use Rattle.std.specs.List.{flat_map}
use Rattle.mux_trail.specs.History.{change_text}
use Rattle.mux_trail.proofs.history.History.push.Given as goal

abbrev pub invariant-loop-change : goal.invariant-loop-change
invariant-loop-change l =
    l.out.items ≡ l.fn.out.items ++ flat_map change_text (take l.change-index l.self.changes.items)
