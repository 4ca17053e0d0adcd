use Rattle.std.proofs.Common.{sym}
use Rattle.std.specs.Duration.{as_nanos}
use Rattle.server_connections.specs.Overdue.{awaited_from, is_overdue, sent_off}
use Rattle.server_steps.specs.Ending.{expired}
use Rattle.server_steps.proofs.Visiting.{by_case, changed_at}
use Rattle.server_steps.proofs.ending.expire.Goals as goal

pub returns : goal.returns
returns g c =
    let peer = c.in-Some.peer.now in
    changed_at (expired c.args.now) c.args.key c.args.connections.now peer c.expire.new.self
    (sym c.in-Some.ensures.value)
    (by_case (is_overdue (as_nanos c.args.now) peer) (sent_off peer) (awaited_from c.args.now peer) c.expire.new.self
    c.expire.ensures.overdue c.expire.ensures.waits)
