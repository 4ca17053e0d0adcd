use Rattle.std.proofs.Common.{◌≡◌, ◌≤◌}
use Rattle.server_steps.specs.Ending.{new_below}
use Rattle.server_steps.proofs.ending.count_new.Given as goal

abbrev pub invariant-keys : goal.invariant-keys
invariant-keys g l = (l.count ≡ new_below l.connections.peers l.key) × (l.count ≤ l.key)
