use Rattle.trail_rights.proofs.Vocabulary.{◌≡◌, take, Edition, UserId, History, users_of, StandsAfter}
use Rattle.trail_rights.proofs.decider.users_of.Given as goal

-- those so far
abbrev pub invariant-loop-place : goal.invariant-loop-place
invariant-loop-place l =
    (edition : Edition) (owner : UserId) (h : History) → StandsAfter l.replay edition owner h
    → l.users.items ≡ take l.place (users_of owner h)
