use Rattle.session_commands.proofs.Vocabulary.{◌≡◌, not, filter, take, map, Some, same_user, users_in}
use Rattle.session_commands.proofs.names.others.Given as goal

abbrev pub invariant-loop-place : goal.invariant-loop-place
invariant-loop-place l =
    l.names.items
    ≡ map (λ u. Some u) (filter (λ u. not (same_user l.owner u)) (take l.place (users_in l.acl)))
