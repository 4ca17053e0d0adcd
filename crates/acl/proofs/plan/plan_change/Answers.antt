use Rattle.acl.proofs.Vocabulary.{◌∙◌, ◌++◌, ◌+◌, ap, sym, arith, drop, append_assoc, take, slice_index_or, None}
use Rattle.acl.proofs.Vocabulary.{err_from_is_err_and, change_acts, new_acts, name_sets, with_name, with_names}
use Rattle.acl.proofs.Vocabulary.{users_in, table_of}
use Rattle.acl.proofs.InPlace.{drop-next}
use Rattle.acl.proofs.NameLemmas.{with_names-next}
use Rattle.acl.proofs.PlanLemmas.{keeps-on, name_acts-parts}
use Rattle.acl.proofs.plan.plan_change.Goals as goal

pub returns-in_err-plan_name_sets-clause-err : goal.returns-in_err-plan_name_sets-clause-err
returns-in_err-plan_name_sets-clause-err c =
    let p = err_from_is_err_and c.from_residual-in_err-plan_name_sets.result
    c.from_residual-in_err-plan_name_sets.ensures.1 in
    rw p.1
    (keeps-on _ _ _ c.loop-i.invariant.kept
    (keeps-on _ _ _ (_, c.in_ok-plan_known.ensures.ok) c.in_err-plan_name_sets.ensures.err))

pub loop-i-preserved : goal.loop-i-preserved
loop-i-preserved c =
    let users = users_in (table_of c.args.lists.now) in
    let changes = c.args.change.changes.now in
    let objects = c.args.change.objects.now in
    let i = c.loop-i.i in
    let name = slice_index_or c.args.change.names.now i None in
    let before = with_names users (take i c.args.change.names.now) in
    let rest = drop (i + 1) c.args.change.names.now in
    let left = change_acts (with_name before name) rest changes objects in
    let acts = c.loop-i.acts.items in
    record {
      left = ap (λ us. c.plan_name_sets.new.acts.items ++ change_acts us rest changes objects)
          (with_names-next users c.args.change.names.now i (omega arith))
          ∙ ap (λ xs. xs ++ left)
          (c.in_ok-plan_name_sets.ensures.ok
          ∙ ap (λ xs. xs ++ name_sets changes objects name) c.in_ok-plan_known.ensures.ok)
          ∙ ap (λ xs. xs ++ left) (append_assoc acts (new_acts before name) (name_sets changes objects name))
          ∙ append_assoc acts (new_acts before name ++ name_sets changes objects name) left
          ∙ ap (λ xs. acts ++ (xs ++ left)) (sym (name_acts-parts before name changes objects))
          ∙ ap (λ ns. acts ++ change_acts before ns changes objects)
          (drop-next c.args.change.names.now i None (omega arith))
          ∙ c.loop-i.invariant.left;
      kept = keeps-on _ _ _ c.loop-i.invariant.kept
          (keeps-on _ _ _ (_, c.in_ok-plan_known.ensures.ok) (_, c.in_ok-plan_name_sets.ensures.ok));
    }
