use Rattle.session_laws.proofs.worked.guests.spectators.Goals as goal
use Rattle.session_laws.proofs.WatchingComputed as computed

pub returns-clause-watches : goal.returns-clause-watches
returns-clause-watches c = computed.bob_watches

pub returns-clause-reads : goal.returns-clause-reads
returns-clause-reads c = computed.they_read
