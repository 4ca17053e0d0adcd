use Rattle.trail_setup.proofs.Settled.{states_keep}
use Rattle.trail_setup.proofs.states_keep.Goals as goal

pub returns : goal.returns
returns c = states_keep
