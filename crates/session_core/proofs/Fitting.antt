-- The tables of a run are fit, as the session's proofs need them.
use Rattle.session_core.proofs.Vocabulary.{Trace, fresh, AreFit, tables_of}
use Rattle.session_laws.proofs.Staying.{fresh_fit, run_fit}

pub run_is_fit : (h : Trace) → AreFit (tables_of h)
run_is_fit h =
    run_fit (fresh h.edition h.owner) h.entries (fresh_fit h.edition h.owner)
