use Rattle.trail_confined.proofs.Vocabulary.{◌≡◌, ◌++◌, take, not, filter, Edition, UserId, History, StandsAfter}
use Rattle.trail_confined.proofs.Vocabulary.{is_known, users_of}
use Rattle.trail_confined.proofs.premises.users_with.Given as goal

abbrev pub invariant-loop-user : goal.invariant-loop-user
invariant-loop-user l =
    (edition : Edition) (owner : UserId) (h : History) → StandsAfter l.replay edition owner h
    → l.users.items ≡ users_of owner h ++ filter (λ u. not (is_known owner h u)) (take l.user-index l.others)
