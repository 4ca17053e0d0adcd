use Rattle.session_laws.proofs.guests.rights_are_gated.Goals as goal
use Rattle.session_laws.proofs.Gating.{gated, below}

pub returns : goal.returns
returns c = gated (below c.steps_keep_promise.ensures c.commands_do_their_rows.ensures.done
    c.commands_do_their_rows.ensures.refused c.keys_do_their_rows.ensures)
