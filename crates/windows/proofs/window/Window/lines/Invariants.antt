use Rattle.std.proofs.Common.{◌≡◌, map, take}
use Rattle.windows.proofs.window.Window.lines.Given as goal

abbrev pub invariant-loop-line : goal.invariant-loop-line
invariant-loop-line l = map (λ cells. cells.now) l.lines.items ≡ take l.line l.page
