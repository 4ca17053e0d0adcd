use Rattle.session_laws.proofs.windows_are_remembered.Goals as goal
use Rattle.session_laws.proofs.WindowsOfRuns.{recalled}

pub returns : goal.returns
returns c = recalled
