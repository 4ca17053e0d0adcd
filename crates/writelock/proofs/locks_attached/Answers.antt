use Rattle.writelock.proofs.LockLemmas.{LocksStandFor-Attached}
use Rattle.writelock.proofs.locks_attached.Goals as goal

pub returns : goal.returns
returns c = LocksStandFor-Attached
