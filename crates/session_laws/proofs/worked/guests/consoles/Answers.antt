use Rattle.session_laws.proofs.worked.guests.consoles.Goals as goal
use Rattle.session_laws.proofs.ConsolesComputed as computed

pub returns-clause-granted : goal.returns-clause-granted
returns-clause-granted c = computed.granted

pub returns-clause-guests : goal.returns-clause-guests
returns-clause-guests c = computed.are_guests

pub returns-clause-shut_out : goal.returns-clause-shut_out
returns-clause-shut_out c = computed.all_shut_out

pub returns-clause-reopened : goal.returns-clause-reopened
returns-clause-reopened c = computed.reopened

pub returns-clause-by_hand : goal.returns-clause-by_hand
returns-clause-by_hand c = computed.by_hand
