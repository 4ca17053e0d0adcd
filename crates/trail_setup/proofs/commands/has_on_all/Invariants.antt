use Rattle.trail_setup.proofs.Vocabulary.{◌≡◌, drop, list_all, ALL, Edition, UserId, History, HasEntries, has_just}
use Rattle.trail_setup.proofs.commands.has_on_all.Given as goal

-- those so far passed
abbrev pub invariant-loop-command : goal.invariant-loop-command
invariant-loop-command l =
    (edition : Edition) (owner : UserId) (h : History) → HasEntries l.entries edition owner h
    → list_all (has_just owner h l.user l.given) (drop l.command-index ALL)
    ≡ list_all (has_just owner h l.user l.given) ALL
