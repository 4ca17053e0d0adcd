use Rattle.session_state.proofs.Vocabulary.{ap, not, rules, filter_same, UserId, same_user, is_of, Client}
use Rattle.session_model.specs.Tables as model
use Rattle.session_state.proofs.Changing.{kept}
use Rattle.session_state.proofs.clients.Clients.remove_of.Goals as goal

pub returns : goal.returns
returns c =
    let test = λ (d : Client). not (same_user d.user c.args.user) in
    kept (λ (m : model.Client). not (is_of c.args.user m)) test c.args.self.now c.self.inside.rows
    c.retain.new.self (λ m d st. ap (λ (u : UserId). not (same_user u c.args.user)) st.user_is) c.self.view_is
    (filter_same _ test _ (λ x b f called. search rules) c.self.inside.rows c.retain.new.self
    c.retain.ensures)
