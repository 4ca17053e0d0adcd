use Rattle.hub_check.proofs.Vocabulary.{◌≡◌, ◌∙◌, true, sym, subst, ◌↔◌, Ending, IsOfKnown, Kept}
use Rattle.hub_trail.specs.declared.kept.Kept.TheVariants as kept
use Rattle.hub_check.proofs.fits.is_of_known.Goals as goal

pub returns-in-Attach : goal.returns-in-Attach
returns-in-Attach c = λ edition owner h s.
    let k = c.knows.ensures edition owner h s in
    let event = kept.Attach c.in-Attach.user c.in-Attach.rows c.in-Attach.columns in
    subst (λ (x : Kept). (c.knows.result ≡ true) ↔ IsOfKnown owner h x c.args.ending.now)
    (sym c.in-Attach.is)
    (subst (λ (r : Ending). (c.knows.result ≡ true) ↔ IsOfKnown owner h event r) (sym c.in-Ok.is)
    (λ yes. sym k ∙ yes, λ known. k ∙ known))

pub returns-in-Command : goal.returns-in-Command
returns-in-Command c = λ edition owner h s.
    let k = c.knows-in-Command.ensures edition owner h s in
    let event = kept.Command c.in-Command.user c.in-Command.window c.in-Command.line in
    subst (λ (x : Kept). (c.knows-in-Command.result ≡ true) ↔ IsOfKnown owner h x c.args.ending.now)
    (sym c.in-Command.is)
    (subst (λ (r : Ending). (c.knows-in-Command.result ≡ true) ↔ IsOfKnown owner h event r) (sym c.in-Ok.is)
    (λ yes. sym k ∙ yes, λ known. k ∙ known))

pub returns-in-Open : goal.returns-in-Open
returns-in-Open c = λ edition owner h s.
    let k = c.knows-in-Open.ensures edition owner h s in
    let o = c.in-Open in
    let event = kept.Open o.user o.rows o.columns o.keep o.title in
    subst (λ (x : Kept). (c.knows-in-Open.result ≡ true) ↔ IsOfKnown owner h x c.args.ending.now)
    (sym o.is)
    (subst (λ (r : Ending). (c.knows-in-Open.result ≡ true) ↔ IsOfKnown owner h event r) (sym c.in-Ok.is)
    (λ yes. sym k ∙ yes, λ known. k ∙ known))
