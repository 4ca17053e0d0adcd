use Rattle.server_session.proofs.Refusing.{refused}
use Rattle.server_session.proofs.shared_session.SharedSessionLoopSession.submit.Goals as goal

pub returns-in-Err-clause-refused : goal.returns-in-Err-clause-refused
returns-in-Err-clause-refused g c = refused _ c.in-Err.fault c.in-Err.ensures.full c.in-Err.ensures.strange
