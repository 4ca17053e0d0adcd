use Rattle.regions.proofs.Halving.{halves_one_box}
use Rattle.regions.proofs.a_split_halves_one_box.Goals as goal

pub returns : goal.returns
returns c = halves_one_box
