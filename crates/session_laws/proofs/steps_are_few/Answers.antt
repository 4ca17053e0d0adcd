use Rattle.session_laws.proofs.steps_are_few.Goals as goal
use Rattle.session_laws.proofs.FewEffects.{step_few}

pub returns : goal.returns
returns c = step_few
