use Rattle.std.proofs.Common.{arith}
use Rattle.std.proofs.lemmas.Grind.{common_steps}
use Rattle.trail_confined.proofs.who.push_user.Goals as goal

pub returns : goal.returns
returns c = λ edition owner h stands.
    grind (arith, common_steps, c.leaders_of.ensures edition owner h stands)
