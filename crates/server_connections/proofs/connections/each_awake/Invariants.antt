use Rattle.std.proofs.Common.{◌-◌}
use Rattle.server_connections.specs.Walking.{Walks}
use Rattle.server_connections.proofs.connections.each_awake.Given as goal

-- whatever the rest of the walk makes of it, the whole walk does
abbrev pub invariant-visits : goal.invariant-visits
invariant-visits g l =
    goal.F-IsAlwaysCallable g l.visit
    × ((new : _)
    → Walks (λ h. (g.T.HasConnections.held h).awake) (goal.F-post g l.visit) (l.end - l.counter) l.from l.end
    l.holder new
    → Walks (λ h. (g.T.HasConnections.held h).awake) (goal.F-post g l.visit) l.end 0 l.end l.fn.holder new)
