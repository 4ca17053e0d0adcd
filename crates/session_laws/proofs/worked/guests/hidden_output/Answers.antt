use Rattle.session_laws.proofs.worked.guests.hidden_output.Goals as goal
use Rattle.session_laws.proofs.HidingComputed as computed

pub returns-clause-shown_before : goal.returns-clause-shown_before
returns-clause-shown_before c = computed.shown_before

pub returns-clause-none_of_own : goal.returns-clause-none_of_own
returns-clause-none_of_own c = computed.none_of_own

pub returns-clause-turned_before : goal.returns-clause-turned_before
returns-clause-turned_before c = computed.turned_before

pub returns-clause-turned_behind : goal.returns-clause-turned_behind
returns-clause-turned_behind c = computed.turned_behind

pub returns-clause-never_read : goal.returns-clause-never_read
returns-clause-never_read c = computed.never_read
