-- After a write, what was written and what waits are still all that was put.
use Rattle.std.proofs.Common.{◌≡◌, ℕ, List, take, drop, Option, Some, None, append_assoc}
use Rattle.std.proofs.lemmas.List.{take-append-drop}
use Rattle.std.specs.Io.KnownBytes.{Keeps, Appends}
use Rattle.server_sending.specs.Written.{Waiting, IsWritten}

pub kept : (old new : Option (List ℕ)) → Keeps old new → (put : List ℕ) (turn : Waiting)
    → IsWritten put old turn → IsWritten put new turn
kept None new k put turn w = absurd w
kept (Some xs) None k put turn w = absurd k
kept (Some xs) (Some ys) k put turn w = rw k w

pub moved : (old new : Option (List ℕ)) (n : ℕ) (before after : Waiting)
    → Appends old new (take n before.unsent) → after.unsent ≡ drop n before.unsent
    → (put : List ℕ) → IsWritten put old before → IsWritten put new after
moved None new n before after a e put w = absurd w
moved (Some xs) None n before after a e put w = absurd a
moved (Some xs) (Some ys) n before after a e put w = rw (a, e, append_assoc, take-append-drop) w
