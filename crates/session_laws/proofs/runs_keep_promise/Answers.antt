use Rattle.session_laws.proofs.runs_keep_promise.Goals as goal
use Rattle.session_laws.proofs.Promising.{run_keeps}

pub returns : goal.returns
returns c = run_keeps
