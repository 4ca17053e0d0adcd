use Rattle.regions.proofs.Undone.{split_undone}
use Rattle.regions.proofs.a_removed_split_is_undone.Goals as goal

pub returns : goal.returns
returns c = split_undone
