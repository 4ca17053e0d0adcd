use Rattle.windows.proofs.Writings.{fed}
use Rattle.windows.proofs.window.Window.feed_all.Goals as goal

pub returns-in-Ok-clause-ok : goal.returns-in-Ok-clause-ok
returns-in-Ok-clause-ok c =
    rw (← c.in_ok-reserve.ensures.items)
    (fed c.args.self.now c.feed_all.new.self c.args.bytes.now c.reserve.new.self.items c.feed_all.new.out.items
    c.in-Ok.ensures.ok)
