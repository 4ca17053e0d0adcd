use Rattle.session_view.proofs.Vocabulary.{◌≡◌, List, length, map, take, UserId, Shown, part_of, Tables, part_shown}
use Rattle.session_view.proofs.Vocabulary.{Matched, ShowsPart}
use Rattle.session_view.proofs.parts.panes.Given as goal

-- one pane for each part before this one
abbrev pub invariant-loop-part : goal.invariant-loop-part
invariant-loop-part l = record {
  each : length l.made.items ≡ l.part-index;
  shown : (t : Tables) (user : UserId) (shown : List Shown)
      → Matched (ShowsPart t user) shown l.parts
      → map part_of l.made.items ≡ map (part_shown t user) (take l.part-index shown);
}
