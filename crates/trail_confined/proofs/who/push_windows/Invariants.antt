use Rattle.trail_confined.proofs.Vocabulary.{◌≡◌, ◌++◌, take, flat_map, Edition, UserId, History, StandsAfter}
use Rattle.trail_confined.proofs.Vocabulary.{window_text}
use Rattle.trail_confined.proofs.who.push_windows.Given as goal

abbrev pub invariant-loop-window : goal.invariant-loop-window
invariant-loop-window l =
    (edition : Edition) (owner : UserId) (h : History) → StandsAfter l.replay edition owner h
    → l.out.items ≡ l.fn.out.items ++ flat_map (window_text edition owner h l.users) (take l.window-index l.windows)
