use Rattle.trail_setup.proofs.Standing.{states_stand}
use Rattle.trail_setup.proofs.states_stand.Goals as goal

pub returns : goal.returns
returns c = states_stand
