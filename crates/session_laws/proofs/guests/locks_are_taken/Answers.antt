use Rattle.session_laws.proofs.Vocabulary.{fresh}
use Rattle.session_laws.proofs.guests.locks_are_taken.Goals as goal
use Rattle.session_laws.proofs.Holding.{stay_able, run_able, are_taken}
use Rattle.session_laws.proofs.Gating.{below}

pub returns-clause-step : goal.returns-clause-step
returns-clause-step c =
    stay_able (below c.steps_keep_promise.ensures c.commands_do_their_rows.ensures.done
    c.commands_do_their_rows.ensures.refused c.keys_do_their_rows.ensures)

pub returns-clause-run : goal.returns-clause-run
returns-clause-run c h run =
    run_able (below c.steps_keep_promise.ensures c.commands_do_their_rows.ensures.done
    c.commands_do_their_rows.ensures.refused c.keys_do_their_rows.ensures) (fresh h.edition h.owner) h.entries
    (λ window user is. absurd (cc (is))) run

pub returns-clause-taken : goal.returns-clause-taken
returns-clause-taken c =
    are_taken (below c.steps_keep_promise.ensures c.commands_do_their_rows.ensures.done
    c.commands_do_their_rows.ensures.refused c.keys_do_their_rows.ensures)
