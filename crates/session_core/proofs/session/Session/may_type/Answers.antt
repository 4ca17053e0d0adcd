use Rattle.session_model.specs.Run.{tables_of}
use Rattle.session_core.proofs.Fitting.{run_is_fit}
use Rattle.session_core.proofs.session.Session.may_type.Goals as goal

pub returns : goal.returns
returns c = λ h st. c.may_type.ensures (tables_of h) st.stands (run_is_fit h)
