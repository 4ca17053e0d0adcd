use Rattle.hub_trail.proofs.Steps.{judged_filed}
use Rattle.hub_trail.proofs.entries_are_judgeable.Goals as goal

pub returns : goal.returns
returns c = judged_filed
