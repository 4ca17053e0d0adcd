use Rattle.trail_confined.proofs.Vocabulary.{◌≡◌, take, Edition, UserId, History, StandsAfter, circles_of}
use Rattle.trail_confined.proofs.premises.circles_of.Given as goal

-- the circles of the users before the next one
abbrev pub invariant-loop-user : goal.invariant-loop-user
invariant-loop-user l =
    (edition : Edition) (owner : UserId) (h : History) → StandsAfter l.replay edition owner h
    → l.circles.items ≡ circles_of edition h (take l.user-index l.users)
