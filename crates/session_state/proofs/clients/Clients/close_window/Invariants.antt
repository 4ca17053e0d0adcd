use Rattle.session_state.proofs.Vocabulary.{◌≡◌, ◌++◌, map, take, drop, without}
use Rattle.session_state.proofs.clients.Clients.close_window.Given as goal

abbrev pub invariant-loop-client : goal.invariant-loop-client
invariant-loop-client l =
    l.client-items
    ≡ map (without l.serial) (take l.client-index l.initial.client-items)
    ++ drop l.client-index l.initial.client-items
