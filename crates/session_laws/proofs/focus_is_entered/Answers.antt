use Rattle.session_laws.proofs.focus_is_entered.Goals as goal
use Rattle.session_laws.proofs.FocusOfRuns.{recalled}

pub returns : goal.returns
returns c = recalled
