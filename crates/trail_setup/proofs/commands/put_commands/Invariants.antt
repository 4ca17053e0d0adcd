use Rattle.trail_setup.proofs.Vocabulary.{◌≡◌, [], ℕ, List, map, filter, take, ALL, Edition, UserId, History, name_text}
use Rattle.trail_setup.proofs.Vocabulary.{HasEntries, has_just, HoldWords, kind_of}
use Rattle.trail_setup.proofs.commands.put_commands.Given as goal

-- those so far with just these bits were put
abbrev pub invariant-loop-command : goal.invariant-loop-command
invariant-loop-command l =
    (l.lines.form ≡ l.fn.lines.form)
    × ((edition : Edition) (owner : UserId) (h : History) → HasEntries l.entries edition owner h → (start : List ℕ)
    → HoldWords (kind_of l.fn.lines.form) start [] l.fn.out.items l.fn.lines.line.items
    → HoldWords (kind_of l.fn.lines.form) start (map name_text (filter (has_just owner h l.user l.given)
    (take l.command-index ALL))) l.out.items l.lines.line.items)
