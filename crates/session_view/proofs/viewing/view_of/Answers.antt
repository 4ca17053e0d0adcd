use Rattle.session_model.specs.Tables.{client_at}
use Rattle.session_view.proofs.Granting.{view_there}
use Rattle.session_view.proofs.viewing.view_of.Goals as goal

pub returns : goal.returns
returns c = λ t st fit.
    view_there t c.in-Some.client.now (client_at t c.args.client) c.in_ok-view_for.field-0
    (c.in-Some.ensures.stands t.clients st.clients)
    (λ m is. c.in_ok-view_for.ensures.granted t m st fit is)
