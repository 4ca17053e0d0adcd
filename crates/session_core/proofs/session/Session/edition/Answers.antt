use Rattle.std.proofs.Common.{◌∙◌}
use Rattle.session_core.proofs.session.Session.edition.Goals as goal

pub returns : goal.returns
returns c = λ h st. c.edition.ensures ∙ st.stands.acl.edition_is
