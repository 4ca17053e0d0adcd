use Rattle.session_laws.proofs.worked.policies.ops.Goals as goal
use Rattle.session_laws.proofs.PoliciesComputed as computed

pub returns : goal.returns
returns c = computed.ops
