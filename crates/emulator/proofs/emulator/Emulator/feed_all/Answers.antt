use Rattle.std.proofs.Common.{arith}
use Rattle.emulator.proofs.Feeding.{nothing-has-read}
use Rattle.emulator.proofs.Wholes.{has-read-on}
use Rattle.emulator.proofs.emulator.Emulator.feed_all.Goals as goal

pub bytes-init : goal.bytes-init
bytes-init c = record
    { read = λ t h. nothing-has-read t _ _ h; inside = omega arith; few = omega arith; capacity = omega arith }

pub bytes-preserved : goal.bytes-preserved
bytes-preserved c = record {
  read = λ t h. let k = c.bytes.invariant.read t h in
      has-read-on t c.args.bytes.now c.bytes.read c.in-Ok.count c.args.out.now.items c.bytes.out.items
      c.feed_some.new.out.items c.bytes.self c.feed_some.new.self k (c.in-Ok.ensures.ok _ k.stands);
  inside = omega (arith, c.in-Ok.ensures.few);
  few = omega (arith, c.in-Ok.ensures.answers);
  capacity = omega arith;
}
