use Rattle.session_state.proofs.Vocabulary.{ap, not, ◌==◌, Client}
use Rattle.session_model.specs.Tables as model
use Rattle.session_state.proofs.Changing.{kept}
use Rattle.session_state.proofs.clients.Clients.remove.Goals as goal

pub returns : goal.returns
returns c =
    kept (λ (m : model.Client). not (m.serial == c.args.serial))
    (λ (d : Client). not (d.serial == c.args.serial)) c.args.self.now c.self.inside.rows
    c.remove.new.self (λ m d st. ap (λ n. not (n == c.args.serial)) st.serial_is) c.self.view_is
    c.remove.ensures
