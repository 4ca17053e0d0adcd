use Rattle.std.proofs.Common.{refl}
use Rattle.acl.specs.declared.act.Act.TheVariants.{Default}
use Rattle.rights.proofs.Standing.{stands_aside}
use Rattle.rights.proofs.moves.set_default.Goals as goal

pub returns : goal.returns
returns c = λ edition owner h s. (
  refl,
  λ is.
      stands_aside c.args.rights.now _ edition owner h (Default c.args.mode) tt refl refl refl refl refl s
      (c.set_default.ensures edition owner h s.locks),
)
