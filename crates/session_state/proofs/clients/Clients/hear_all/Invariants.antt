use Rattle.session_state.proofs.Vocabulary.{◌≡◌, ◌+◌, ◌-◌, ◌++◌, ℕ, List, map, take, drop, length, replicate, Text}
use Rattle.session_state.proofs.Vocabulary.{heard}
use Rattle.session_state.proofs.clients.Clients.hear_all.Given as goal

abbrev pub invariant-loop-client : goal.invariant-loop-client
invariant-loop-client l = record {
  left : length l.messages.items + l.client-index ≡ length l.initial.client-items;
  told : (text : List ℕ)
      → l.initial.messages.items ≡ replicate (length l.initial.client-items) (Text text)
      → (l.messages.items ≡ replicate (length l.initial.client-items - l.client-index) (Text text))
      × (l.client-items
      ≡ map (heard text) (take l.client-index l.initial.client-items)
      ++ drop l.client-index l.initial.client-items);
}
