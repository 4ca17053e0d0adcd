use Rattle.std.proofs.Common.{arith}
use Rattle.attach_proto.proofs.Differences.{more}
use Rattle.attach_proto.proofs.token.are_same.Goals as goal

pub loop-i-preserved : goal.loop-i-preserved
loop-i-preserved c = more c.args.ours.now c.args.theirs.now c.loop-i.i c.loop-i.difference
    (omega arith) (omega arith) c.loop-i.invariant
