use Rattle.session_commands.proofs.Vocabulary.{◌≡◌, ◌≤◌, ◌+◌, ◌++◌, take, vec_len, vec_capacity, Edition, UserId}
use Rattle.session_commands.proofs.Vocabulary.{History, followed_by, StandsFor, LocksStandFor, closed_acts}
use Rattle.session_commands.proofs.closing.note_closed.Given as goal

-- the windows that are closed up to here
abbrev pub invariant-loop-i : goal.invariant-loop-i
invariant-loop-i l =
    (l.acts.items ≡ l.fn.acts.items ++ closed_acts (take l.i l.windows))
    × (vec_len l.acts ≤ vec_len l.fn.acts + l.i)
    × (vec_capacity l.fn.acts ≤ vec_capacity l.acts)
    × ((edition : Edition) (owner : UserId) (h : History) → StandsFor l.fn.acl edition owner h
    → StandsFor l.acl edition owner (followed_by h (closed_acts (take l.i l.windows))))
    × ((edition : Edition) (owner : UserId) (h : History) → LocksStandFor l.fn.locks edition owner h
    → LocksStandFor l.locks edition owner (followed_by h (closed_acts (take l.i l.windows))))
