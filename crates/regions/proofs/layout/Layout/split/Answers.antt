use Rattle.std.proofs.Common.{◌≡◌, ◌+◌, arith}
use Rattle.std.proofs.lemmas.Grind.{common_steps}
use Rattle.regions.specs.Shapes.{shape, regions}
use Rattle.regions.proofs.Counting.{regions_split}
use Rattle.regions.proofs.layout.Layout.split.Goals as goal

pub invariant_of-self-2 : goal.invariant_of-self-2
invariant_of-self-2 c =
    let more : regions (shape c.split.new.self) ≡ regions (shape c.self.inside.tree) + 1 = rw c.split.ensures
    (regions_split c.args.way c.self.inside.focus (shape c.self.inside.tree)) in
    grind (arith, common_steps)
