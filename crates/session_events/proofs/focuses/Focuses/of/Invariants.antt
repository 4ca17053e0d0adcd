use Rattle.session_events.proofs.Vocabulary.{◌≡◌, ◌≤◌, length, map, take, focus_now}
use Rattle.session_events.proofs.focuses.Focuses.of.Given as goal

abbrev pub invariant-loop-client : goal.invariant-loop-client
invariant-loop-client l =
    length l.client-items ≤ 64 → l.focuses ≡ map focus_now (take l.client-index l.client-items)
