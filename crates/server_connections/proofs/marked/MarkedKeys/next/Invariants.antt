use Rattle.std.proofs.Common.{◌≤◌, ◌<◌, ◌*◌, ◌+◌}
use Rattle.server_connections.proofs.Marking.{NoneBetween}
use Rattle.server_connections.proofs.marked.MarkedKeys.next.Given as goal

abbrev pub invariant-words : goal.invariant-words
invariant-words l =
    (l.low < 64) × (l.from ≤ 64 * l.place + l.low) × NoneBetween l.self l.from (64 * l.place + l.low)
