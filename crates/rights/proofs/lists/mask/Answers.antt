use Rattle.rights.proofs.Vocabulary.{◌∷◌, [], Some, refl, known_name_fault, users_of}
use Rattle.acl.specs.declared.act.Act.TheVariants.{Masked}
use Rattle.acl.specs.declared.entries.MaskScope.TheVariants as scope
use Rattle.acl.specs.Commands.{mask_fault}
use Rattle.rights.proofs.Standing.{stands_on}
use Rattle.rights.proofs.Redoing.{redo, on_ok, alone}
use Rattle.rights.proofs.lists.mask.Goals as goal

pub returns : goal.returns
returns c =
    redo c.args.rights.now _ c.mask.result c.redone.result (Masked c.args.by c.args.user c.args.bit c.args.value)
    c.redone.ensures
    (λ edition owner h s. (
      mask_fault owner (users_of owner h)
          (record { scope = scope.User (Some c.args.user); bit = c.args.bit; value = c.args.value } ∷ []),
      c.mask.ensures.answer edition owner h s.acl,
      alone (known_name_fault owner (users_of owner h) (Some c.args.user)),
    ))
    (λ is edition owner h s.
    let done = on_ok c.mask.result c.mask.ensures.done is edition owner h s.acl in
    stands_on c.args.rights.now _ edition owner h (Masked c.args.by c.args.user c.args.bit c.args.value) refl refl refl
    refl s done.stands (done.follower s.locks))
