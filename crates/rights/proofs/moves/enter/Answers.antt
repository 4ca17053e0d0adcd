use Rattle.rights.proofs.Vocabulary.{◌≡◌, ◌∙◌, true, refl, sym, is_open}
use Rattle.acl.specs.declared.act.Act.TheVariants.{Entered}
use Rattle.rights.proofs.Standing.{stands_aside}
use Rattle.rights.proofs.moves.enter.Goals as goal

pub returns : goal.returns
returns c = λ edition owner h s.
    let opened : is_open h c.args.window ≡ true = sym (c.is_open.ensures edition owner h s)
    ∙ c.if-not-is_open.false in (
      sym opened,
      λ is.
          stands_aside c.args.rights.now _ edition owner h (Entered c.args.user c.args.window) tt refl refl refl refl
          refl s
          (c.entered.ensures edition owner h s.locks opened (c.may-may_write.ensures edition owner h s opened)),
    )
