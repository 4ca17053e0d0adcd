use Rattle.trail_confined.proofs.Vocabulary.{◌≡◌, ◌∙◌, Some, None, refl, ap, sym, cond, History, may, there, is_there}
use Rattle.acl.specs.declared.act.Object.{Object}
use Rattle.acl.specs.declared.act.Object.TheVariants.{Window, Command}
use Rattle.trail_rights.specs.Windows.{windows_of}
use Rattle.trail_rights.proofs.Opened.{open_listed}
use Rattle.trail_confined.proofs.why.answer_of.Goals as goal

there_is : (h : History) (o : Object) → is_there (windows_of h) o ≡ there h o
there_is h (Window w) = open_listed h w
there_is h (Command c) = refl

pub returns-then-is_there : goal.returns-then-is_there
returns-then-is_there c = λ edition owner h stands windows.
    let q = c.args.question in
    let is = sym (there_is h q.object)
    ∙ (ap (λ ws. is_there ws q.object) (sym (c.windows.ensures ∙ windows))
    ∙ (sym c.is_there.ensures ∙ c.if-is_there.true)) in
    ap Some (c.may.ensures edition owner h stands is)
    ∙ sym (ap (λ b. cond b (Some (may edition owner h q.user q.bit q.object)) None) is)

pub returns-else-is_there : goal.returns-else-is_there
returns-else-is_there c = λ edition owner h stands windows.
    let q = c.args.question in
    let is = sym (there_is h q.object)
    ∙ (ap (λ ws. is_there ws q.object) (sym (c.windows.ensures ∙ windows))
    ∙ (sym c.is_there.ensures ∙ c.if-is_there.false)) in
    sym (ap (λ b. cond b (Some (may edition owner h q.user q.bit q.object)) None) is)
