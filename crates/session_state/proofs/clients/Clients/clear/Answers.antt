use Rattle.session_state.proofs.Vocabulary.{not, true, false, refl, rules, filter_same, Client}
use Rattle.session_model.specs.Tables as model
use Rattle.session_state.proofs.Changing.{kept}
use Rattle.session_state.proofs.clients.Clients.clear.Goals as goal

pub returns : goal.returns
returns c =
    let test = λ (d : Client). false in
    kept (λ (m : model.Client). not true) test c.args.self.now c.self.inside.rows
    c.retain.new.self (λ m d st. refl) c.self.view_is
    (filter_same _ test _ (λ x b f called. search rules) c.self.inside.rows c.retain.new.self
    c.retain.ensures)
