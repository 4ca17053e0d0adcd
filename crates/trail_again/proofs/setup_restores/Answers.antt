use Rattle.trail_again.proofs.Restoring.{setup_restores}
use Rattle.trail_again.proofs.setup_restores.Goals as goal

pub returns : goal.returns
returns c = setup_restores
