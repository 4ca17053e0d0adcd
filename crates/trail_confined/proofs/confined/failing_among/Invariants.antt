use Rattle.trail_confined.proofs.Vocabulary.{◌≡◌, not, take, drop, filter, AllByRecursion, list_all, Edition, UserId}
use Rattle.trail_confined.proofs.Vocabulary.{StandsAfter, holds, is_asked, Marked, acts_in, HasSettled}
use Rattle.trail_confined.proofs.confined.failing_among.Given as goal

-- those among the premises so far; which are still to be told
abbrev pub invariant-loop-premise : goal.invariant-loop-premise
invariant-loop-premise l = record {
  failing : (edition : Edition) (owner : UserId) (marked : Marked)
      → StandsAfter l.replay edition owner (acts_in marked) → AllByRecursion (HasSettled marked) l.settlers
      → l.failing.items ≡ filter (λ p. not (holds edition owner (acts_in marked) p)) (take l.premise-index l.premises);
  asked : list_all (is_asked l.settlers) (drop l.premise-index l.premises) ≡ list_all (is_asked l.settlers) l.premises;
}
