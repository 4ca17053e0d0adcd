use Rattle.session_commands.proofs.Vocabulary.{◌≡◌, ◌≤◌, ◌+◌, ◌++◌, take, vec_len, vec_capacity, Edition, UserId}
use Rattle.session_commands.proofs.Vocabulary.{History, followed_by, LocksStandFor, ClientsStandFor, parted_now}
use Rattle.session_commands.proofs.going.note_parted.Given as goal

-- the clients that have gone up to here
abbrev pub invariant-loop-i : goal.invariant-loop-i
invariant-loop-i l =
    (l.acts.items ≡ l.fn.acts.items ++ parted_now l.going (take l.i l.clients))
    × (vec_len l.acts ≤ vec_len l.fn.acts + l.i)
    × (vec_capacity l.fn.acts ≤ vec_capacity l.acts)
    × ((edition : Edition) (owner : UserId) (h : History) → LocksStandFor l.fn.locks edition owner h
    → ClientsStandFor l.fn.rows.items h
    → LocksStandFor l.locks edition owner (followed_by h (parted_now l.going (take l.i l.clients)))
    × ClientsStandFor l.rows.items (followed_by h (parted_now l.going (take l.i l.clients))))
