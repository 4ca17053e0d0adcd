use Rattle.hub_trail.proofs.Runs.{decided}
use Rattle.hub_trail.proofs.verdicts_are_decided.Goals as goal

pub returns : goal.returns
returns c = decided
