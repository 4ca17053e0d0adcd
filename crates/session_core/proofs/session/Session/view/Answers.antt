use Rattle.session_core.proofs.Vocabulary.{refl, client_at, tables_of}
use Rattle.session_core.proofs.Fitting.{run_is_fit}
use Rattle.session_core.proofs.Seeing.{sees}
use Rattle.session_core.proofs.session.Session.view.Goals as goal

pub returns : goal.returns
returns c = λ h st. sees h c.args.client c.view_of.result (client_at (tables_of h) c.args.client) refl
    (c.view_of.ensures (tables_of h) st.stands (run_is_fit h))
