use Rattle.std.proofs.Common.{sym, arith}
use Rattle.writelock.proofs.SlotViews.{lock_at-put}
use Rattle.writelock.proofs.locks.Locks.put.Goals as goal

pub returns-in-Some-clause-locks : goal.returns-in-Some-clause-locks
returns-in-Some-clause-locks c = λ q. lock_at-put c.args.self.now.windows.serials c.args.self.now.locks c.args.window
    c.in-Some.slot c.args.lock (omega arith) (sym c.in-Some.ensures.slot) q
