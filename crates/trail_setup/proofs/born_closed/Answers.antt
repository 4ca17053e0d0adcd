use Rattle.trail_setup.proofs.Born.{born_closed}
use Rattle.trail_setup.proofs.born_closed.Goals as goal

pub returns : goal.returns
returns c = born_closed
