use Rattle.session_laws.proofs.guests.others_are_gated.Goals as goal
use Rattle.session_laws.proofs.KeptLabels.{windows_stay}
use Rattle.session_laws.proofs.Parting.{mode_gated, clients_stay}
use Rattle.session_laws.proofs.Gating.{below}

pub returns-clause-mode : goal.returns-clause-mode
returns-clause-mode c =
    mode_gated (below c.steps_keep_promise.ensures c.commands_do_their_rows.ensures.done
    c.commands_do_their_rows.ensures.refused c.keys_do_their_rows.ensures)

pub returns-clause-clients : goal.returns-clause-clients
returns-clause-clients c =
    clients_stay (below c.steps_keep_promise.ensures c.commands_do_their_rows.ensures.done
    c.commands_do_their_rows.ensures.refused c.keys_do_their_rows.ensures) c.tables_stay_fit.ensures.step

pub returns-clause-windows : goal.returns-clause-windows
returns-clause-windows c =
    windows_stay (below c.steps_keep_promise.ensures c.commands_do_their_rows.ensures.done
    c.commands_do_their_rows.ensures.refused c.keys_do_their_rows.ensures)
