use Rattle.session_model.specs.Deeds.{hearing}
use Rattle.session_state.proofs.Keeping.{keeps_heard}
use Rattle.session_state.proofs.Changing.{changed_row, no_row}
use Rattle.session_state.proofs.clients.Clients.hear.Goals as goal

pub returns : goal.returns
returns c =
    changed_row (hearing c.args.message) c.args.self.now c.self.inside.rows c.args.serial
    c.get_mut.result c.in-Some.client c.get_mut.follows.lender c.hear.new.self c.self.view_is
    c.get_mut.follows.claims c.get_mut.follows.holds c.in-Some.is
    (λ m st. keeps_heard c.args.message m c.in-Some.client.now c.hear.new.self c.hear.ensures st)

pub returns-in_default : goal.returns-in_default
returns-in_default c =
    no_row (hearing c.args.message) c.args.self.now c.self.inside.rows _ c.args.serial
    c.get_mut.result c.self.view_is c.get_mut.follows.claims c.in_default.is
