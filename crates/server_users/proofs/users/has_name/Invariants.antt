use Rattle.std.proofs.Common.{Contains, map, take}
use Rattle.server_users.proofs.Seen.{name_at}
use Rattle.server_users.proofs.users.has_name.Given as goal

abbrev pub invariant-loop-user : goal.invariant-loop-user
invariant-loop-user l = Contains (map name_at (take l.user-index l.users)) l.name → ⊥
