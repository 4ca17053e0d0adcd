use Rattle.session_state.proofs.Vocabulary.{◌≡◌, map, take, said}
use Rattle.session_state.proofs.clients.Clients.says.Given as goal

abbrev pub invariant-loop-client : goal.invariant-loop-client
invariant-loop-client l =
    l.made.items ≡ map (said l.text) (take l.client-index l.client-items)
