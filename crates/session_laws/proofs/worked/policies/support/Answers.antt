use Rattle.session_laws.proofs.worked.policies.support.Goals as goal
use Rattle.session_laws.proofs.PoliciesComputed as computed

pub returns : goal.returns
returns c = computed.support
