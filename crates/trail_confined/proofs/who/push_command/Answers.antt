use Rattle.std.proofs.Common.{arith}
use Rattle.std.proofs.lemmas.Grind.{common_steps}
use Rattle.trail_confined.proofs.who.push_command.Goals as goal

pub returns-then-not-has_bit : goal.returns-then-not-has_bit
returns-then-not-has_bit c = λ edition owner h stands.
    grind (arith, common_steps, c.has_bit.ensures edition owner h stands)

pub returns : goal.returns
returns c = λ edition owner h stands.
    grind (arith, common_steps, c.has_bit.ensures edition owner h stands)
