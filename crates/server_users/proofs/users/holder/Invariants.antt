use Rattle.server_users.proofs.Vocabulary.{Contains, map, take, entry_of}
use Rattle.server_users.proofs.users.holder.Given as goal

abbrev pub invariant-loop-user : goal.invariant-loop-user
invariant-loop-user l = Contains (map entry_of (take l.user-index l.users))
    (record { name = l.name; token = l.token }) → ⊥
