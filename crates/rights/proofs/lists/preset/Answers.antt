use Rattle.std.proofs.Common.{None, refl}
use Rattle.acl.specs.declared.act.Act.TheVariants.{Preset}
use Rattle.rights.proofs.Standing.{stands_on}
use Rattle.rights.proofs.Redoing.{redo, on_ok}
use Rattle.rights.proofs.lists.preset.Goals as goal

pub returns : goal.returns
returns c =
    redo c.args.rights.now _ c.mask.result c.redone.result (Preset c.args.kind c.args.bit c.args.value) c.redone.ensures
    (λ edition owner h s. (None, c.mask.ensures.answer edition owner h s.acl, refl))
    (λ is edition owner h s.
    let done = on_ok c.mask.result c.mask.ensures.done is edition owner h s.acl in
    stands_on c.args.rights.now _ edition owner h (Preset c.args.kind c.args.bit c.args.value) refl refl refl refl s
    done.stands (done.follower s.locks))
