use Rattle.writelock.proofs.RightsLemmas.{clients-all_same, mode-all_same, default-all_same}
use Rattle.writelock.proofs.lists_leave_locks.Goals as goal

pub returns : goal.returns
returns c = record { clients = clients-all_same; modes = mode-all_same; default = default-all_same }
