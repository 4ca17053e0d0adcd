use Rattle.trail_confined.proofs.Vocabulary.{◌∙◌, ◌&&◌, ap, sym, Bool, may}
use Rattle.trail_confined.proofs.who.has_bit.Goals as goal

pub returns-then-is_there : goal.returns-then-is_there
returns-then-is_there c = λ edition owner h stands.
    let there_is = sym (c.is_there.ensures edition owner h stands) ∙ c.if-is_there.true in
    c.may.ensures edition owner h stands there_is
    ∙ sym (ap (λ (b : Bool). b && may edition owner h c.args.user c.args.bit c.args.object) there_is)

pub returns-else-is_there : goal.returns-else-is_there
returns-else-is_there c = λ edition owner h stands.
    let not_there = sym (c.is_there.ensures edition owner h stands) ∙ c.if-is_there.false in
    c.if-is_there.false
    ∙ sym (ap (λ (b : Bool). b && may edition owner h c.args.user c.args.bit c.args.object) not_there)
