use Rattle.rights.proofs.Vocabulary.{◌∙◌, ◌++◌, ap, sym, subst, AllByRecursion, sets, IsUnlocked}
use Rattle.rights.proofs.lists.follow_run.Goals as goal

pub returns-clause-some : goal.returns-clause-some
returns-clause-some c = λ edition owner h s.
    let u = c.in-Set.user in
    let changes = c.as_slice.result.now in
    let objects = c.as_slice-2.result.now in
    let rest = c.in_ok-rest.rest.now in
    let named = sym (c.is_nameable.ensures edition owner h s) ∙ c.if-not-is_nameable.false in
    let free = subst (AllByRecursion (IsUnlocked c.args.rights.now.locks)) (sym c.as_slice-2.ensures.value)
    c.in_ok-rest.ensures.unlocked in
    let done = c.in_ok-set_all.ensures c.if-not-branch.false edition owner h s named free in (
      sets u changes objects,
      c.in_ok-rest.ensures.acts
          ∙ (ap (λ cs. sets u cs c.read.new.self.objects.items ++ rest) (sym c.as_slice.ensures.value)
          ∙ ap (λ os. sets u changes os ++ rest) (sym c.as_slice-2.ensures.value)),
      done.0,
      done.1,
    )
