use Rattle.session_laws.proofs.worked.policies.class.Goals as goal
use Rattle.session_laws.proofs.PoliciesComputed as computed

pub returns : goal.returns
returns c = computed.class
