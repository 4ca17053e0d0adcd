use Rattle.trail_confined.proofs.Vocabulary.{◌≡◌, ◌++◌, take, flat_map, leader_text}
use Rattle.trail_confined.proofs.who.push_leaders.Given as goal

abbrev pub invariant-loop-leader : goal.invariant-loop-leader
invariant-loop-leader l = l.out.items ≡ l.fn.out.items ++ flat_map leader_text (take l.leader-index l.leaders)
