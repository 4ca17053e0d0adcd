use Rattle.std.proofs.Common.{refl}
use Rattle.acl.specs.declared.act.Act.TheVariants.{Left}
use Rattle.rights.proofs.Standing.{stands_aside}
use Rattle.rights.proofs.moves.leave.Goals as goal

pub returns : goal.returns
returns c = λ edition owner h s. (
  refl,
  λ is.
      stands_aside c.args.rights.now _ edition owner h (Left c.args.user c.args.window) tt refl refl refl refl refl s
      (c.left.ensures edition owner h s.locks),
)
