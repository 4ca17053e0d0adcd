use Rattle.rights.proofs.Vocabulary.{◌≡◌, length, Edition, UserId, History, followed_by, CanFollow, StandsAfter}
use Rattle.std.specs.Prelude.{◌↔◌}
use Rattle.rights.proofs.rights.Rights.follow_all.Given as goal

-- the acts so far, and what is left to follow
abbrev pub invariant-acts : goal.invariant-acts
invariant-acts l =
    (edition : Edition) (owner : UserId) (h : History) → StandsAfter l.fn.self edition owner h
    → (past : History) × StandsAfter l.self edition owner past
    × (CanFollow edition owner h l.fn.acts ↔ CanFollow edition owner past l.rest)
    × (followed_by past l.rest ≡ followed_by h l.fn.acts)

abbrev pub decreases-acts : goal.decreases-acts
decreases-acts l = length l.rest
