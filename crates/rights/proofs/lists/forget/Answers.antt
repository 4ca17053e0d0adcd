use Rattle.rights.proofs.Vocabulary.{Some, refl, known_name_fault, users_of}
use Rattle.acl.specs.declared.act.Act.TheVariants.{Gone}
use Rattle.rights.proofs.Standing.{stands_on}
use Rattle.rights.proofs.Redoing.{redo, on_ok}
use Rattle.rights.proofs.lists.forget.Goals as goal

pub returns : goal.returns
returns c =
    redo c.args.rights.now _ c.remove.result c.redone.result (Gone c.args.user) c.redone.ensures
    (λ edition owner h s. (
      known_name_fault owner (users_of owner h) (Some c.args.user),
      c.remove.ensures.answer edition owner h s.acl,
      refl,
    ))
    (λ is edition owner h s.
    let done = on_ok c.remove.result c.remove.ensures.done is edition owner h s.acl in
    stands_on c.args.rights.now _ edition owner h (Gone c.args.user) refl refl refl refl s done.stands
    (done.follower s.locks))
