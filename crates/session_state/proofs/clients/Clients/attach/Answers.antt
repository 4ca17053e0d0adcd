use Rattle.session_state.proofs.Vocabulary.{◌++◌, ◌∷◌, [], ◌∙◌, ap, sym, subst, List, on_ok, Client, attached}
use Rattle.session_state.proofs.Vocabulary.{ClientStands, AreClients}
use Rattle.session_model.specs.Tables as model
use Rattle.windows_model.proofs.Matching.{push_match}
use Rattle.session_state.proofs.clients.Clients.attach.Goals as goal

pub returns-clause-ok : goal.returns-clause-ok
returns-clause-ok c =
    let m : model.Client =
    attached c.args.client.serial c.args.client.user c.args.client.rows c.args.client.columns c.args.client.window in
    let made : Client = c.in_ok-made.made in
    on_ok c.push.result (λ is.
    let now = is ∙ ap (λ (cs : List Client). cs ++ made ∷ []) c.self.view_is in record {
      made = made;
      stands = c.in_ok-made.ensures;
      new_is = now;
      attached = λ rows st.
          subst (λ (cs : List Client). AreClients (rows ++ m ∷ []) cs) (sym now)
          (push_match ClientStands rows m c.args.self.now made st c.in_ok-made.ensures);
    }) c.push.ensures.ok
