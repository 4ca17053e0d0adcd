use Rattle.trail_confined.proofs.Vocabulary.{◌≡◌, ◌++◌, take, flat_map, Edition, UserId, History, StandsAfter, ALL}
use Rattle.trail_confined.proofs.Vocabulary.{command_text}
use Rattle.trail_confined.proofs.who.push_each_command.Given as goal

abbrev pub invariant-loop-command : goal.invariant-loop-command
invariant-loop-command l =
    (edition : Edition) (owner : UserId) (h : History) → StandsAfter l.replay edition owner h
    → l.out.items ≡ l.fn.out.items ++ flat_map (command_text edition owner h l.user) (take l.command-index ALL)
