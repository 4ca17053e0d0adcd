use Rattle.session_state.proofs.Vocabulary.{ℕ, List, StandsFor}
use Rattle.session_state.proofs.Typing.{ReadsOn}
use Rattle.session_state.proofs.reading.read_keys.Given as goal

abbrev pub invariant-loop-i : goal.invariant-loop-i
invariant-loop-i l =
    (past : List ℕ) → StandsFor l.fn.reader past → ReadsOn past l.keys l.i l.typed l.reader
