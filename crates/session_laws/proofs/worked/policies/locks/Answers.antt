use Rattle.session_laws.proofs.worked.policies.locks.Goals as goal
use Rattle.session_laws.proofs.TrapsComputed as computed

pub returns-clause-parked : goal.returns-clause-parked
returns-clause-parked c = computed.parked

pub returns-clause-defaults : goal.returns-clause-defaults
returns-clause-defaults c = computed.locked
