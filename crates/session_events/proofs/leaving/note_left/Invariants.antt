use Rattle.session_events.proofs.Vocabulary.{◌≡◌, ◌≤◌, ◌+◌, ◌++◌, drop, List, Act, Edition, UserId, History}
use Rattle.session_events.proofs.Vocabulary.{followed_by, LocksStandFor, all_left}
use Rattle.std.specs.Prelude.{vec_len, vec_capacity}
use Rattle.session_events.proofs.leaving.note_left.Given as goal

-- the users of the focuses up to here who have left, and then those of the later ones
abbrev pub invariant-loop-i : goal.invariant-loop-i
invariant-loop-i l =
    (so_far : List Act) × (so_far ++ all_left (drop l.i l.before) l.clients ≡ all_left l.before l.clients)
    × (l.acts.items ≡ l.fn.acts.items ++ so_far)
    × (vec_len l.acts ≤ vec_len l.fn.acts + l.i)
    × (vec_capacity l.fn.acts ≤ vec_capacity l.acts)
    × ((edition : Edition) (owner : UserId) (h : History) → LocksStandFor l.fn.locks edition owner h
    → LocksStandFor l.locks edition owner (followed_by h so_far))
