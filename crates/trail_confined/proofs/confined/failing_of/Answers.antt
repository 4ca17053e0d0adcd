use Rattle.trail_confined.proofs.Vocabulary.{◌≡◌, ◌∙◌, ap, sym, subst, not, IfOk, IfSome, filter, is_some}
use Rattle.trail_confined.proofs.Vocabulary.{AllByRecursion, list_all, holds, is_asked, acts_in, HasSettled}
use Rattle.trail_confined.proofs.confined.failing_of.Goals as goal

pub returns-clause-failing : goal.returns-clause-failing
returns-clause-failing c = λ edition owner marked stands seen.
    let settled = subst (AllByRecursion (HasSettled marked)) (sym c.settlers.ensures) seen.settlers in
    let are = c.in_ok-premises.ensures edition owner (acts_in marked) stands in
    subst
    (λ ps. IfOk c.failing_among.result
    (λ o. IfSome o (λ f. f.items ≡ filter (λ p. not (holds edition owner (acts_in marked) p)) ps)))
    (c.as_slice.ensures.value ∙ are)
    (c.failing_among.ensures.failing edition owner marked stands settled)

pub returns-clause-told : goal.returns-clause-told
returns-clause-told c = λ edition owner h stands told.
    let are = c.in_ok-premises.ensures edition owner h stands in
    let all = ap (λ ss. list_all (is_asked ss) c.as_slice.result.now) c.settlers.ensures
    ∙ ap (list_all (is_asked c.args.sight.now.settlers.items)) (c.as_slice.ensures.value ∙ are)
    ∙ told in
    subst (λ b. IfOk c.failing_among.result (λ o. is_some o ≡ b)) all c.failing_among.ensures.asked
