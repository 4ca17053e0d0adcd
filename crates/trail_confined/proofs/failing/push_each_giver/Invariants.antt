use Rattle.trail_confined.proofs.Vocabulary.{◌≡◌, ◌++◌, take, flat_map, act_giver_text}
use Rattle.trail_confined.proofs.failing.push_each_giver.Given as goal

abbrev pub invariant-loop-user : goal.invariant-loop-user
invariant-loop-user l =
    l.out.items
    ≡ l.fn.out.items ++ flat_map (act_giver_text l.deciders l.command l.by_preset) (take l.user-index l.users)
