use Rattle.session_laws.proofs.steps_keep_promise.Goals as goal
use Rattle.session_laws.proofs.Promising.{step_keeps}

pub returns : goal.returns
returns c = step_keeps
