use Rattle.std.proofs.Common.{◌≡◌, ◌++◌, map, take, drop}
use Rattle.regions.specs.Layouts.{emptied}
use Rattle.regions.proofs.layout.Layout.close_window.Given as goal

abbrev pub invariant-loop-shown : goal.invariant-loop-shown
invariant-loop-shown l = l.shown-items ≡ map (emptied l.serial) (take l.shown-index l.initial.shown-items) ++ drop
    l.shown-index l.initial.shown-items
