use Rattle.acl.proofs.AsideLemmas.{StandsFor-aside, StandsFor-all_aside}
use Rattle.acl.proofs.acts_aside.Goals as goal

pub returns : goal.returns
returns c = record { one = StandsFor-aside; all = StandsFor-all_aside }
