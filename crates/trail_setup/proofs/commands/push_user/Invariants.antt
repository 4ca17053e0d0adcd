use Rattle.trail_setup.proofs.Vocabulary.{map, take, Edition, UserId, History, HasEntries, PutsAll, all_given}
use Rattle.trail_setup.proofs.Vocabulary.{given_line}
use Rattle.trail_setup.proofs.commands.push_user.Given as goal

abbrev pub invariant-loop-given : goal.invariant-loop-given
invariant-loop-given l =
    (edition : Edition) (owner : UserId) (h : History) → HasEntries l.entries edition owner h
    → PutsAll (map (given_line owner h l.user) (take l.given-index all_given)) l.fn.out.items l.out.items
