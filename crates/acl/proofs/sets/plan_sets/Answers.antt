use Rattle.acl.proofs.Vocabulary.{◌∙◌, ◌++◌, ◌+◌, ap, sym, refl, arith, drop, append_assoc, err_from_is_err_and, sets}
use Rattle.acl.proofs.InPlace.{drop-next, drop-past}
use Rattle.acl.proofs.PlanLemmas.{keeps-all, keeps-on, append-nil}
use Rattle.acl.proofs.sets.plan_sets.Goals as goal

pub loop-object-init : goal.loop-object-init
loop-object-init c = record { left = refl; kept = keeps-all c.args.acts.now.items }

pub loop-object-preserved : goal.loop-object-preserved
loop-object-preserved c = record {
  left = ap (λ xs. xs ++ sets c.args.user c.args.changes.now (drop (c.loop-object.object-index + 1) c.args.objects.now))
      c.in_ok-plan_sets_on.ensures.ok
      ∙ append_assoc c.loop-object.acts.items _ _
      ∙ ap (λ xs. c.loop-object.acts.items ++ sets c.args.user c.args.changes.now xs)
      (drop-next c.args.objects.now c.loop-object.object-index _ (omega arith))
      ∙ c.loop-object.invariant.left;
  kept = keeps-on _ _ _ c.loop-object.invariant.kept (_, c.in_ok-plan_sets_on.ensures.ok);
}

pub returns-in_err-plan_sets_on-clause-err : goal.returns-in_err-plan_sets_on-clause-err
returns-in_err-plan_sets_on-clause-err c = let p = err_from_is_err_and c.from_residual.result c.from_residual.ensures.1
    in rw p.1 (keeps-on _ _ _ c.loop-object.invariant.kept c.in_err-plan_sets_on.ensures.err)

pub returns-clause-ok : goal.returns-clause-ok
returns-clause-ok c =
    append-nil c.loop-object.acts.items
    ∙ ap (λ xs. c.loop-object.acts.items ++ sets c.args.user c.args.changes.now xs)
    (sym (drop-past c.loop-object.object-index c.args.objects.now (omega arith)))
    ∙ c.loop-object.invariant.left
