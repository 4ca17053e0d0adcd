use Rattle.session_model.specs.Run.{tables_of}
use Rattle.session_core.proofs.session.Session.user_of.Goals as goal

pub returns : goal.returns
returns c = λ h st. c.user_of.ensures (tables_of h) st.stands
