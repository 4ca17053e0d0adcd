use Rattle.session_laws.proofs.guests.guests_are_contained.Goals as goal
use Rattle.session_laws.proofs.Containing.{stays, theirs_granted}
use Rattle.session_laws.proofs.Gating.{below}

pub returns : goal.returns
returns c start later guests are run theirs =
    (stays (below c.steps_keep_promise.ensures c.commands_do_their_rows.ensures.done
    c.commands_do_their_rows.ensures.refused c.keys_do_their_rows.ensures) start later guests are run
    (theirs_granted start later guests theirs)).contained
