use Rattle.hub_trail.proofs.Steps.{judged_run}
use Rattle.hub_trail.proofs.trails_are_judgeable.Goals as goal

pub returns : goal.returns
returns c = judged_run
