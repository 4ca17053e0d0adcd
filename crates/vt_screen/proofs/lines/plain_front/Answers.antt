use Rattle.std.proofs.Common.{arith}
use Rattle.vt_screen.proofs.LineRuns.{front_few, front_plain}
use Rattle.vt_screen.proofs.lines.plain_front.Goals as goal

pub returns-clause-plain : goal.returns-clause-plain
returns-clause-plain c = rw c.plain_run.ensures (front_plain c.min.result c.args.bytes.now)

pub returns-clause-few : goal.returns-clause-few
returns-clause-few c = omega (arith, c.plain_run.ensures, c.min.ensures, front_few c.min.result c.args.bytes.now)

pub returns-clause-room : goal.returns-clause-room
returns-clause-room c = omega (arith, c.plain_run.ensures, c.min.ensures, front_few c.min.result c.args.bytes.now)
