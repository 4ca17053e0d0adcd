use Rattle.std.proofs.Common.{arith}
use Rattle.std.proofs.lemmas.Grind.{common_steps}
use Rattle.trail_confined.proofs.who.push_window.Goals as goal

pub returns : goal.returns
returns c = λ edition owner h stands.
    grind (
      arith,
      common_steps,
      c.holder.ensures edition owner h stands,
      c.in_ok-push_all_bits.ensures edition owner h stands,
    )
