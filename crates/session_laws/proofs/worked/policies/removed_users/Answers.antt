use Rattle.session_laws.proofs.worked.policies.removed_users.Goals as goal
use Rattle.session_laws.proofs.TrapsComputed as computed

pub returns-clause-windows : goal.returns-clause-windows
returns-clause-windows c = computed.removed

pub returns-clause-masks : goal.returns-clause-masks
returns-clause-masks c = computed.back
