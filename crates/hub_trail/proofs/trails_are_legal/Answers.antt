use Rattle.hub_trail.proofs.Runs.{legal_run, acts_run}
use Rattle.hub_trail.proofs.trails_are_legal.Goals as goal

pub returns-clause-legal : goal.returns-clause-legal
returns-clause-legal c = legal_run

pub returns-clause-acts : goal.returns-clause-acts
returns-clause-acts c = acts_run
