use Rattle.std.proofs.Common.{◌∙◌}
use Rattle.session_core.proofs.session.Session.owner.Goals as goal

pub returns : goal.returns
returns c = λ h st. c.owner.ensures ∙ st.stands.acl.owned
