use Rattle.session_state.proofs.Vocabulary.{map, take, IsList, client_item}
use Rattle.session_state.proofs.texts.clients_text.Given as goal

-- the items of the clients before this one
abbrev pub invariant-loop-client : goal.invariant-loop-client
invariant-loop-client l =
    IsList (map (client_item l.state.windows) (take l.client-index l.client-items)) l.is_first
    l.text.items
