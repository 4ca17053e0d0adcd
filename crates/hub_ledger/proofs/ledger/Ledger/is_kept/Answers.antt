use Rattle.hub_ledger.proofs.Vocabulary.{subst, IsKept}
use Rattle.hub_ledger.proofs.Standing.{kept_legal}
use Rattle.hub_ledger.proofs.ledger.Ledger.is_kept.Goals as goal

pub returns-clause-kept : goal.returns-clause-kept
returns-clause-kept g c = subst IsKept c.self.view_is c.self.invariant.0

pub returns-clause-legal : goal.returns-clause-legal
returns-clause-legal g c = kept_legal c.args.self.now (subst IsKept c.self.view_is c.self.invariant.0)
