use Rattle.session_commands.proofs.Vocabulary.{◌≡◌, map, filter, take, gone_now, goes_now}
use Rattle.session_commands.proofs.going.gone_clients.Given as goal

abbrev pub invariant-loop-client : goal.invariant-loop-client
invariant-loop-client l =
    l.gone.items ≡ map (gone_now l.why) (filter (goes_now l.going) (take l.client-index l.clients))
