use Rattle.trail_confined.proofs.Vocabulary.{◌≡◌, ◌++◌, take, flat_map, Edition, UserId, History, StandsAfter}
use Rattle.trail_confined.proofs.Vocabulary.{user_text}
use Rattle.trail_confined.proofs.who.push_users.Given as goal

abbrev pub invariant-loop-user : goal.invariant-loop-user
invariant-loop-user l =
    (edition : Edition) (owner : UserId) (h : History) → StandsAfter l.replay edition owner h
    → l.out.items ≡ l.fn.out.items ++ flat_map (user_text edition h) (take l.user-index l.users)
