use Rattle.std.proofs.lemmas.Result.{err_from_is_err_and}
use Rattle.acl.proofs.PlanLemmas.{keeps-on}
use Rattle.acl.proofs.plan.plan_grants.Goals as goal

pub returns-in_err-plan_name_sets-clause-err : goal.returns-in_err-plan_name_sets-clause-err
returns-in_err-plan_name_sets-clause-err c =
    let p = err_from_is_err_and c.from_residual.result c.from_residual.ensures.1 in
    rw p.1 (keeps-on _ _ _ c.loop-name.invariant.kept c.in_err-plan_name_sets.ensures.err)
