use Rattle.regions.proofs.Tiling.{page_once}
use Rattle.regions.proofs.each_place_once.Goals as goal

pub returns : goal.returns
returns c = page_once
