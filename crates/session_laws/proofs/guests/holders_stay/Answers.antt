use Rattle.session_laws.proofs.guests.holders_stay.Goals as goal
use Rattle.session_laws.proofs.KeptLocks.{holders_stay}
use Rattle.session_laws.proofs.Gating.{below}

pub returns : goal.returns
returns c =
    holders_stay (below c.steps_keep_promise.ensures c.commands_do_their_rows.ensures.done
    c.commands_do_their_rows.ensures.refused c.keys_do_their_rows.ensures)
