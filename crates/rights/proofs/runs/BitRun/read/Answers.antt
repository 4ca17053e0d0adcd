use Rattle.rights.proofs.Vocabulary.{◌≡◌, ◌++◌, sym, subst, AllByRecursion, sets, sets_on, IsUnlocked}
use Rattle.rights.proofs.Reading.{all_more, read_more}
use Rattle.rights.proofs.runs.BitRun.read.Goals as goal

pub objects-preserved : goal.objects-preserved
objects-preserved c =
    let i = c.objects.invariant in
    let next = subst (λ cs. c.objects.rest.now ≡ sets_on c.args.user cs c.in-Some.object ++ c.in-Some.behind.now)
    c.as_slice.ensures.value c.in-Some.ensures.acts in (
      subst (λ os. c.args.acts.now ≡ sets c.args.user c.objects.self.changes.items os ++ c.in-Some.behind.now)
          (sym c.in_ok-push.ensures.items)
          (read_more c.args.user c.objects.self.changes.items c.objects.self.objects.items c.in-Some.object
          c.args.acts.now c.objects.rest.now c.in-Some.behind.now i.0 next),
      subst (AllByRecursion (IsUnlocked c.args.locks.now)) (sym c.in_ok-push.ensures.items)
          (all_more (IsUnlocked c.args.locks.now) c.objects.self.objects.items c.in-Some.object i.1
          c.in-Some.ensures.unlocked),
    )
