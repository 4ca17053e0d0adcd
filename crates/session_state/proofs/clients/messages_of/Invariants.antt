use Rattle.session_state.proofs.Vocabulary.{◌≡◌, replicate, Text}
use Rattle.session_state.proofs.clients.messages_of.Given as goal

abbrev pub invariant-loop-i : goal.invariant-loop-i
invariant-loop-i l = l.made.items ≡ replicate l.i (Text l.text)
