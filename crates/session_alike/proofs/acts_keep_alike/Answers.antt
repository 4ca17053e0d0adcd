use Rattle.session_alike.proofs.acts_keep_alike.Goals as goal
use Rattle.session_alike.proofs.Histories.{all_alike}

pub returns : goal.returns
returns c = all_alike
