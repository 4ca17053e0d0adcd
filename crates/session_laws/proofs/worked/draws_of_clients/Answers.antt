use Rattle.session_laws.proofs.worked.draws_of_clients.Goals as goal
use Rattle.session_laws.proofs.WorkedDrawn as drawn

pub returns-clause-readable : goal.returns-clause-readable
returns-clause-readable c = drawn.readable

pub returns-clause-revoked : goal.returns-clause-revoked
returns-clause-revoked c = drawn.revoked_blank

pub returns-clause-begins_anew : goal.returns-clause-begins_anew
returns-clause-begins_anew c = drawn.begins_anew

pub returns-clause-drawn_once : goal.returns-clause-drawn_once
returns-clause-drawn_once c = drawn.drawn_once
