use Rattle.rights.proofs.Vocabulary.{◌≡◌, ◌∙◌, ◌||◌, true, refl, ap, sym, Window, Write, is_open, may}
use Rattle.acl.specs.declared.act.Act.TheVariants.{Mode}
use Rattle.writelock.specs.Holding.{is_off}
use Rattle.rights.proofs.Standing.{stands_aside, or_rest}
use Rattle.rights.proofs.Redoing.{both}
use Rattle.rights.proofs.moves.set_mode.Goals as goal

pub returns : goal.returns
returns c = λ edition owner h s.
    let may_write = may edition owner h c.args.by Write (Window c.args.window) in
    let opened : is_open h c.args.window ≡ true = sym (c.is_open.ensures edition owner h s) ∙ c.if-not-is_open.false in
    let let_ : (is_off c.args.mode || may_write) ≡ true =
    ap (λ b. is_off c.args.mode || b) (sym (c.may-may_write.ensures edition owner h s opened))
    ∙ (sym c.may_set.ensures ∙ c.if-not-may_set.false) in (
      sym (both (is_open h c.args.window) (is_off c.args.mode || may_write) opened let_),
      λ is.
          stands_aside c.args.rights.now _ edition owner h (Mode c.args.by c.args.window c.args.mode) tt refl refl refl
          refl refl s
          (c.set_mode.ensures edition owner h s.locks opened (λ on. or_rest (is_off c.args.mode) may_write let_ on)),
    )
