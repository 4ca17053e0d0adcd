use Rattle.std.proofs.Common.{arith}
use Rattle.std.proofs.lemmas.Grind.{common_steps}
use Rattle.trail_confined.proofs.who.push_bits.Goals as goal

pub returns : goal.returns
returns c = λ edition owner h stands.
    grind (
      arith,
      common_steps,
      c.in_ok-push_bit.ensures edition owner h stands,
      c.in_ok-push_bit-2.ensures edition owner h stands,
      c.push_bit-3.ensures edition owner h stands,
    )
