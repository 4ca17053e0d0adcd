use Rattle.session_laws.proofs.worked.policies.single_user_mode.Goals as goal
use Rattle.session_laws.proofs.TrapsComputed as computed

pub returns : goal.returns
returns c = computed.single_user
