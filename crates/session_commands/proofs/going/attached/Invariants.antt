use Rattle.session_commands.proofs.Vocabulary.{◌≡◌, reverse, take, attached_now}
use Rattle.session_commands.proofs.going.attached.Given as goal

abbrev pub invariant-loop-client : goal.invariant-loop-client
invariant-loop-client l = l.rows.items ≡ reverse (attached_now (take l.client-index l.clients))
