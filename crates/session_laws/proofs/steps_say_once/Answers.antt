use Rattle.session_laws.proofs.steps_say_once.Goals as goal
use Rattle.session_laws.proofs.SaidOnce.{step_once}

pub returns : goal.returns
returns c = step_once
