use Rattle.trail_setup.proofs.Vocabulary.{◌≡◌, ◌++◌, take, flat_map, leader_line}
use Rattle.trail_setup.proofs.commands.push_leaders_of.Given as goal

abbrev pub invariant-loop-leader : goal.invariant-loop-leader
invariant-loop-leader l =
    l.out.items ≡ l.fn.out.items ++ flat_map (leader_line l.user) (take l.leader-index l.leaders)
