use Rattle.std.proofs.Common.{refl}
use Rattle.server_trail.proofs.Merging.{begun}
use Rattle.server_trail.proofs.merge.Merge.new.Goals as goal

pub returns : goal.returns
returns c = begun _ refl c.new.ensures.items refl c.new-2.ensures.empty
