use Rattle.session_laws.proofs.worked.guests.several_openers.Goals as goal
use Rattle.session_laws.proofs.OperatorsComputed as computed

pub returns-clause-guests : goal.returns-clause-guests
returns-clause-guests c = computed.watchers_are_guests

pub returns-clause-no_write : goal.returns-clause-no_write
returns-clause-no_write c = computed.none_types

pub returns-clause-no_execute : goal.returns-clause-no_execute
returns-clause-no_execute c = computed.none_acts

pub returns-clause-come : goal.returns-clause-come
returns-clause-come c = computed.come
