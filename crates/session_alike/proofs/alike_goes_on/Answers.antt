use Rattle.session_alike.proofs.alike_goes_on.Goals as goal
use Rattle.session_alike.proofs.Going.{begins_alike, goes_on, runs_go_on}

pub returns-clause-step : goal.returns-clause-step
returns-clause-step c = goes_on

pub returns-clause-run : goal.returns-clause-run
returns-clause-run c = runs_go_on

pub returns-clause-begin : goal.returns-clause-begin
returns-clause-begin c = begins_alike
