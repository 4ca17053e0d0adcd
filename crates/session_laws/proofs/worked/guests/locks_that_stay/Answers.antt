use Rattle.session_laws.proofs.worked.guests.locks_that_stay.Goals as goal
use Rattle.session_laws.proofs.LocksComputed as computed

pub returns-clause-holds : goal.returns-clause-holds
returns-clause-holds c = computed.holds

pub returns-clause-freed : goal.returns-clause-freed
returns-clause-freed c = computed.freed

pub returns-clause-by_leaders : goal.returns-clause-by_leaders
returns-clause-by_leaders c = computed.by_leaders

pub returns-clause-keeps : goal.returns-clause-keeps
returns-clause-keeps c = computed.keeps

pub returns-clause-own_keeps : goal.returns-clause-own_keeps
returns-clause-own_keeps c = computed.own_keeps
