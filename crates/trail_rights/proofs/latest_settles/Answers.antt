use Rattle.trail_rights.proofs.Settled.{settling_is_latest}
use Rattle.trail_rights.proofs.latest_settles.Goals as goal

pub returns : goal.returns
returns c = settling_is_latest
