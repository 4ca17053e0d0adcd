use Rattle.trail_lines.proofs.Vocabulary.{◌≡◌, ◌++◌, take, map, codes, name_of, behind}
use Rattle.trail_lines.proofs.replies.push_others.Given as goal

abbrev pub invariant-loop-leader : goal.invariant-loop-leader
invariant-loop-leader l = l.out.items ≡ l.fn.out.items ++ behind (codes ",")
    (map name_of (take l.leader-index l.others))
