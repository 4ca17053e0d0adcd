use Rattle.std.proofs.Common.{◌≡◌, Ok, false, true, rules}
use Rattle.server_inbox.proofs.Gathering.{broken_off, ended, none_yet, one_more}
use Rattle.server_inbox.proofs.inbox.Inbox.gather_some.Goals as goal

pub gathering-init : goal.gathering-init
gathering-init c = none_yet c.args.now c.args.self.now c.args.reader.now

pub gathering-preserved : goal.gathering-preserved
gathering-preserved c =
    let is : c.gather_one.result ≡ Ok true = search rules in
    one_more _ _ _ c.gathering.self c.gather_one.new.self c.refill.new.self _ c.refill.new.reader _
    c.gathering.invariant (c.gather_one.ensures.joins is) (record {
      lies = c.refill.ensures.lies;
      through = c.refill.ensures.through;
      same = c.refill.ensures.same;
    })

pub returns-in-Ok-false : goal.returns-in-Ok-false
returns-in-Ok-false c =
    let is : c.gather_one.result ≡ Ok false = search rules in
    ended _ _ _ c.gathering.self c.gather_one.new.self _ _ c.gathering.invariant (c.gather_one.ensures.stays is)

pub returns-in-Err : goal.returns-in-Err
returns-in-Err c =
    broken_off _ _ _ c.gathering.self c.gather_one.new.self _ _ c.gathering.invariant c.in-Err.ensures.err
