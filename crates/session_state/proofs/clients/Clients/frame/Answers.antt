use Rattle.std.proofs.Common.{sym}
use Rattle.windows_model.proofs.Serials.{if_ok}
use Rattle.session_state.proofs.Drawing.{found_shows, none_then}
use Rattle.session_state.proofs.clients.Clients.frame.Goals as goal

pub returns-clause-needless : goal.returns-clause-needless
returns-clause-needless c =
    if_ok c.to.result (λ frame is. none_then frame (λ known fits.
    found_shows c.args.self.now c.args.serial c.in-Some.client.now c.args.view.now c.in-Some.ensures.stands
    (fits c.in-Some.client.now (sym c.in-Some.ensures.row)) known.0 known.1) is)
    c.to.ensures.needless
