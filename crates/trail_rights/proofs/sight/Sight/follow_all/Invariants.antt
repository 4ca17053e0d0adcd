use Rattle.trail_rights.proofs.Vocabulary.{◌≡◌, drop, UserId, Marked, marked_on, HasSeen, sought}
use Rattle.trail_rights.proofs.sight.Sight.follow_all.Given as goal

-- the acts that were followed, and those that are left; and what is looked for
abbrev pub invariant-loop-pair : goal.invariant-loop-pair
invariant-loop-pair l =
    ((owner : UserId) (marked : Marked) → HasSeen l.fn.self owner marked
    → (past : Marked) × HasSeen l.self owner past
    × (marked_on past (drop l.pair-index l.acts) ≡ marked_on marked l.acts))
    × (sought l.self ≡ sought l.fn.self)
