use Rattle.std.proofs.Common.{◌≡◌, take}
use Rattle.server_users.proofs.users.Users.copy.Given as goal

abbrev pub invariant-loop-user : goal.invariant-loop-user
invariant-loop-user l = l.list.items ≡ take l.user-index l.user-items
