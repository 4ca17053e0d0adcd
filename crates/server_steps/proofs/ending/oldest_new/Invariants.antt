use Rattle.server_steps.proofs.Visiting.{FindsOldest}
use Rattle.server_steps.proofs.ending.oldest_new.Given as goal

abbrev pub invariant-keys : goal.invariant-keys
invariant-keys g l = FindsOldest l.connections.peers l.key l.oldest
