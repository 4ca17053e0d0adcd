use Rattle.trail_confined.proofs.Vocabulary.{◌≡◌, take, filter, Edition, UserId, History, StandsAfter, may_open}
use Rattle.trail_confined.proofs.premises.openers_of.Given as goal

-- those among the users so far
abbrev pub invariant-loop-user : goal.invariant-loop-user
invariant-loop-user l =
    (edition : Edition) (owner : UserId) (h : History) → StandsAfter l.replay edition owner h
    → l.openers.items ≡ filter (may_open edition owner h) (take l.user-index l.user-items)
