use Rattle.hub_ledger.proofs.Vocabulary.{◌++◌, [], List, take, Entry, AreJudgeable}
use Rattle.hub_ledger.proofs.ledger.turned.turned.Given as goal

-- the entries so far can be judged wherever those of the trail can
abbrev pub invariant-places : goal.invariant-places
invariant-places l =
    let judged : List Entry → Type 0 = λ es. AreJudgeable l.trail.edition l.trail.owner [] es in
    (rest : List Entry) → judged (take l.next l.trail.entries ++ rest) → judged (l.list.entries ++ rest)
