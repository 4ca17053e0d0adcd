use Rattle.session_model.specs.Comings.{resized}
use Rattle.session_state.proofs.Keeping.{keeps_resized}
use Rattle.session_state.proofs.Changing.{changed_row, no_row}
use Rattle.session_state.proofs.clients.Clients.resize.Goals as goal

pub returns : goal.returns
returns c =
    changed_row (resized c.args.rows c.args.columns) c.args.self.now c.self.inside.rows c.args.serial
    c.get_mut.result c.in-Some.client c.get_mut.follows.lender c.resize.new.self c.self.view_is
    c.get_mut.follows.claims c.get_mut.follows.holds c.in-Some.is
    (λ m st. keeps_resized c.args.rows c.args.columns m c.in-Some.client.now c.resize.new.self c.requires
    c.resize.ensures st)

pub returns-in_default : goal.returns-in_default
returns-in_default c =
    no_row (resized c.args.rows c.args.columns) c.args.self.now c.self.inside.rows _ c.args.serial
    c.get_mut.result c.self.view_is c.get_mut.follows.claims c.in_default.is
