use Rattle.trail_confined.proofs.Vocabulary.{◌∙◌, ap, sym, subst, not, Option, IfSome, holds, acts_in}
use Rattle.trail_rights.specs.declared.settler.RightsSetting.TheVariants as setting
use Rattle.trail_rights.specs.declared.settler.Settler.{Settler}
use Rattle.trail_rights.proofs.Settled.{IsSettled, settled_in}
use Rattle.trail_confined.proofs.confined.holds.Goals as goal

pub returns-in-Some-clause-holds : goal.returns-in-Some-clause-holds
returns-in-Some-clause-holds c = λ edition owner marked stands settled.
    let q = setting.Mask c.in-Masks.opener c.in-Masks.user c.in-Masks.bit in
    let found = subst (λ (o : Option Settler). IfSome o (IsSettled marked q)) (sym c.settler_in.ensures ∙ c.in-Some.is)
    (settled_in marked c.args.settlers.now q settled) in
    ap not (c.value.ensures ∙ found.0) ∙ ap (holds edition owner (acts_in marked)) (sym c.in-Masks.is)
