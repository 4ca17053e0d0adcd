use Rattle.trail_confined.proofs.Vocabulary.{◌≡◌, ◌++◌, take, flat_map, Edition, UserId, History, StandsAfter}
use Rattle.trail_confined.proofs.Vocabulary.{bits_on}
use Rattle.trail_confined.proofs.who.push_all_bits.Given as goal

abbrev pub invariant-loop-user : goal.invariant-loop-user
invariant-loop-user l =
    (edition : Edition) (owner : UserId) (h : History) → StandsAfter l.replay edition owner h
    → l.out.items ≡ l.fn.out.items ++ flat_map (bits_on edition owner h l.object) (take l.user-index l.users)
