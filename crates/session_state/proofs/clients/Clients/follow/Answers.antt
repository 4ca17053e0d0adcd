use Rattle.session_state.proofs.Vocabulary.{◌∙◌, ap, Knowledge, on_ok, Client}
use Rattle.windows_model.proofs.Serials.{on_error}
use Rattle.session_state.proofs.Changing.{lent_back}
use Rattle.session_state.proofs.Drawing.{drawn_row, nobody_drawn}
use Rattle.session_state.proofs.clients.Clients.follow.Goals as goal

pub returns-clause-drawn : goal.returns-clause-drawn
returns-clause-drawn c =
    on_ok c.follow.result (λ drawn.
    drawn_row c.args.self.now c.self.inside.rows c.args.serial c.get_mut.result c.in-Some.client
    c.get_mut.follows.lender c.args.frame.now.view c.args.frame.now.before c.follow.new.self c.args.frame.now.bytes
    c.self.view_is
    c.get_mut.follows.claims c.get_mut.follows.holds c.in-Some.is drawn)
    c.follow.ensures.ok

pub returns-clause-err : goal.returns-clause-err
returns-clause-err c =
    let row : Client = c.in-Some.client.now in
    on_error c.follow.result (λ same.
    ap (λ (k : Knowledge). c.get_mut.follows.lender (record row { shadow = k })) same
    ∙ lent_back c.args.self.now c.self.inside.rows c.args.serial c.get_mut.result
    c.in-Some.client c.get_mut.follows.lender c.self.view_is c.get_mut.follows.claims
    c.get_mut.follows.holds c.in-Some.is) c.follow.ensures.err

pub returns-in_default-clause-drawn : goal.returns-in_default-clause-drawn
returns-in_default-clause-drawn c = λ drawable leads.
    nobody_drawn c.args.self.now c.self.inside.rows _ c.args.serial c.get_mut.result
    c.args.frame.now.view c.args.frame.now.bytes c.self.view_is c.get_mut.follows.claims c.in_default.is
