use Rattle.trail_again.proofs.Begun.{begins_as_taken}
use Rattle.trail_again.proofs.setups_begin.Goals as goal

pub returns : goal.returns
returns c = begins_as_taken
