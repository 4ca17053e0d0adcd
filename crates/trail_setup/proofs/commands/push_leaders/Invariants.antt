use Rattle.trail_setup.proofs.Vocabulary.{◌≡◌, ◌++◌, take, flat_map, Edition, UserId, History, StandsAfter}
use Rattle.trail_setup.proofs.Vocabulary.{leader_lines}
use Rattle.trail_setup.proofs.commands.push_leaders.Given as goal

abbrev pub invariant-loop-user : goal.invariant-loop-user
invariant-loop-user l =
    (edition : Edition) (owner : UserId) (h : History) → StandsAfter l.replay edition owner h
    → l.out.items ≡ l.fn.out.items ++ flat_map (leader_lines edition h) (take l.user-index l.users)
