use Rattle.session_state.proofs.Vocabulary.{refl, sym, subst, [], List, StandFor, Window, AreClients, Client}
use Rattle.session_state.proofs.state.State.new.Goals as goal

pub returns : goal.returns
returns c = record {
  acl = c.in_ok-acl.ensures;
  locks = c.new-2.ensures c.args.edition c.args.owner;
  multiuser_is = refl;
  windows = subst (λ (ws : List Window). StandFor [] ws) (sym c.new-3.ensures) tt;
  clients = subst (λ (cs : List Client). AreClients [] cs) (sym c.new-4.ensures) tt;
  next_window_is = refl;
  next_client_is = refl;
}
