use Rattle.std.proofs.Common.{arith}
use Rattle.std.proofs.lemmas.Grind.{common_steps}
use Rattle.trail_confined.proofs.who.push_bit.Goals as goal

pub returns-then-has_bit : goal.returns-then-has_bit
returns-then-has_bit c = λ edition owner h stands.
    grind (arith, common_steps, c.has_bit.ensures edition owner h stands)

pub returns-else-has_bit : goal.returns-else-has_bit
returns-else-has_bit c = λ edition owner h stands.
    grind (arith, common_steps, c.has_bit.ensures edition owner h stands)
