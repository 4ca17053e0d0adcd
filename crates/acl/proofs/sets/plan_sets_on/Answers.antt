use Rattle.acl.proofs.Vocabulary.{◌∙◌, ◌++◌, ◌+◌, ap, sym, refl, arith, drop, append_assoc, err_from_is_err_and}
use Rattle.acl.proofs.Vocabulary.{sets_on}
use Rattle.acl.proofs.InPlace.{drop-next, drop-past}
use Rattle.acl.proofs.PlanLemmas.{keeps-all, keeps-same, keeps-on, append-nil}
use Rattle.acl.proofs.sets.plan_sets_on.Goals as goal

pub loop-change-init : goal.loop-change-init
loop-change-init c = record { left = refl; kept = keeps-all c.args.acts.now.items }

pub loop-change-preserved : goal.loop-change-preserved
loop-change-preserved c = record {
  left = ap (λ xs. xs ++ sets_on c.args.user (drop (c.loop-change.change-index + 1) c.args.changes.now) c.args.object)
      c.in_ok-push_act.ensures.ok
      ∙ append_assoc c.loop-change.acts.items _ _
      ∙ ap (λ xs. c.loop-change.acts.items ++ sets_on c.args.user xs c.args.object)
      (drop-next c.args.changes.now c.loop-change.change-index _ (omega arith))
      ∙ c.loop-change.invariant.left;
  kept = keeps-on _ _ _ c.loop-change.invariant.kept (_, c.in_ok-push_act.ensures.ok);
}

pub returns-in_err-push_act-clause-err : goal.returns-in_err-push_act-clause-err
returns-in_err-push_act-clause-err c = let p = err_from_is_err_and c.from_residual.result c.from_residual.ensures.1 in
    rw p.1 (keeps-same _ _ _ c.loop-change.invariant.kept c.in_err-push_act.ensures.err)

pub returns-clause-ok : goal.returns-clause-ok
returns-clause-ok c =
    append-nil c.loop-change.acts.items
    ∙ ap (λ xs. c.loop-change.acts.items ++ sets_on c.args.user xs c.args.object)
    (sym (drop-past c.loop-change.change-index c.args.changes.now (omega arith)))
    ∙ c.loop-change.invariant.left
