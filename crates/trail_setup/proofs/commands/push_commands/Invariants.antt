use Rattle.trail_setup.proofs.Vocabulary.{take, flat_map, Edition, UserId, History, HasEntries, PutsAll, lines_of}
use Rattle.trail_setup.proofs.commands.push_commands.Given as goal

abbrev pub invariant-loop-user : goal.invariant-loop-user
invariant-loop-user l =
    (edition : Edition) (owner : UserId) (h : History) → HasEntries l.entries edition owner h
    → PutsAll (flat_map (lines_of owner h) (take l.user-index l.users)) l.fn.out.items l.out.items
