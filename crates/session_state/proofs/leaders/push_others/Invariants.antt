use Rattle.session_state.proofs.Vocabulary.{◌≡◌, ◌++◌, take, codes, flat_map, name_of}
use Rattle.session_state.proofs.leaders.push_others.Given as goal

abbrev pub invariant-loop-leader : goal.invariant-loop-leader
invariant-loop-leader l =
    l.out.items
    ≡ l.fn.out.items ++ flat_map (λ u. codes "," ++ name_of u) (take l.leader-index l.leaders)
