use Rattle.hub_ledger.proofs.Standing.{kept_acts, kept_legal}
use Rattle.hub_ledger.proofs.ledger.kept_trails_are_legal.Goals as goal

pub returns-clause-legal : goal.returns-clause-legal
returns-clause-legal c = kept_legal

pub returns-clause-acts : goal.returns-clause-acts
returns-clause-acts c = kept_acts
