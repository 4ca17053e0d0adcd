use Rattle.session_laws.proofs.Vocabulary.{[], ◌∷◌}
use Rattle.session_laws.proofs.guests.guests_are_confined.Goals as goal
use Rattle.session_laws.proofs.Confining.{confined}
use Rattle.session_laws.proofs.Containing.{stays}
use Rattle.session_laws.proofs.Gating.{below}

pub returns-clause-step : goal.returns-clause-step
returns-clause-step c t e users bit are shut step theirs =
    confined (below c.steps_keep_promise.ensures c.commands_do_their_rows.ensures.done
    c.commands_do_their_rows.ensures.refused c.keys_do_their_rows.ensures) t (e ∷ []) users bit are shut
    (tt, step) (tt, theirs)

pub returns-clause-run : goal.returns-clause-run
returns-clause-run c =
    confined (below c.steps_keep_promise.ensures c.commands_do_their_rows.ensures.done
    c.commands_do_their_rows.ensures.refused c.keys_do_their_rows.ensures)

pub returns-clause-contained : goal.returns-clause-contained
returns-clause-contained c start later guests are run theirs =
    (stays (below c.steps_keep_promise.ensures c.commands_do_their_rows.ensures.done
    c.commands_do_their_rows.ensures.refused c.keys_do_their_rows.ensures) start later guests are run theirs).contained
