use Rattle.std.proofs.Common.{◌≡◌, length, replicate, map, take, drop, ◌++◌}
use Rattle.vt_screen_page.proofs.store.fill_all.Given as goal

abbrev pub invariant-loop-line : goal.invariant-loop-line
invariant-loop-line l = l.stored ≡ map (λ line. replicate (length line) l.cell) (take l.line-index l.fn.stored) ++ drop
    l.line-index l.fn.stored
