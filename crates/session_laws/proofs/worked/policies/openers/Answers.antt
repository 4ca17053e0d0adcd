use Rattle.session_laws.proofs.worked.policies.openers.Goals as goal
use Rattle.session_laws.proofs.TrapsComputed as computed

pub returns : goal.returns
returns c = computed.misled
