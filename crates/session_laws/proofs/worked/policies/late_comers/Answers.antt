use Rattle.session_laws.proofs.worked.policies.late_comers.Goals as goal
use Rattle.session_laws.proofs.TrapsComputed as computed

pub returns-clause-opener : goal.returns-clause-opener
returns-clause-opener c = computed.late_comers

pub returns-clause-pupil : goal.returns-clause-pupil
returns-clause-pupil c = computed.pupil

pub returns-clause-between : goal.returns-clause-between
returns-clause-between c = computed.between
