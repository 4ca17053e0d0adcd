use Rattle.session_laws.proofs.Vocabulary.{tables_of}
use Rattle.session_laws.proofs.guests.locks_stay.Goals as goal
use Rattle.session_laws.proofs.GuestsKeeping.{locks_stay}
use Rattle.session_laws.proofs.Gating.{below}

pub returns-clause-step : goal.returns-clause-step
returns-clause-step c =
    locks_stay (below c.steps_keep_promise.ensures c.commands_do_their_rows.ensures.done
    c.commands_do_their_rows.ensures.refused c.keys_do_their_rows.ensures)

pub returns-clause-run : goal.returns-clause-run
returns-clause-run c h e run =
    locks_stay (below c.steps_keep_promise.ensures c.commands_do_their_rows.ensures.done
    c.commands_do_their_rows.ensures.refused c.keys_do_their_rows.ensures) (tables_of h) e
    (c.tables_stay_fit.ensures.run h) (c.locks_are_taken.ensures.run h run.0) run.1
