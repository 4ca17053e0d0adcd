use Rattle.rights.proofs.Vocabulary.{◌≡◌, ◌∙◌, true, is_none, is_some, not, ap, sym, subst, is_open, there, holder}
use Rattle.rights.proofs.Vocabulary.{mode_of, is_unheld}
use Rattle.rights.proofs.Standing.{some_if}
use Rattle.rights.proofs.runs.is_unlocked.Goals as goal

pub returns-then-is_some : goal.returns-then-is_some
returns-then-is_some c = λ free edition owner h s.
    let w = c.in-Window.window in
    let opened : is_open h w ≡ true = sym (some_if (is_open h w) (mode_of h w))
    ∙ (sym (ap is_some (c.mode.ensures edition owner h s)) ∙ (sym c.is_some.ensures ∙ c.if-is_some.true)) in
    let unheld : is_none (holder edition owner h w) ≡ true =
    sym (ap is_none (c.holder.ensures edition owner h s)) ∙ (ap not c.is_none.ensures ∙ ap (λ b. not (not b)) free) in
    subst (λ o. (there h o ≡ true) × (is_unheld edition owner h o ≡ true)) (sym c.in-Window.is) (opened, unheld)
