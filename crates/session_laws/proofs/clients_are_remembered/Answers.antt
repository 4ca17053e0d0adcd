use Rattle.session_laws.proofs.clients_are_remembered.Goals as goal
use Rattle.session_laws.proofs.ClientsOfRuns.{remembered}

pub returns : goal.returns
returns c = remembered
