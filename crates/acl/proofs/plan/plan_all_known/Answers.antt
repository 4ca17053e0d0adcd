use Rattle.acl.proofs.Vocabulary.{◌∙◌, ◌++◌, ◌+◌, ap, arith, drop, append_assoc, take, slice_index_or, None, known_acts}
use Rattle.acl.proofs.Vocabulary.{with_name, with_names, users_in, table_of}
use Rattle.acl.proofs.InPlace.{drop-next}
use Rattle.acl.proofs.NameLemmas.{with_names-next}
use Rattle.acl.proofs.PlanLemmas.{keeps-on}
use Rattle.acl.proofs.plan.plan_all_known.Goals as goal

pub loop-i-preserved : goal.loop-i-preserved
loop-i-preserved c =
    let users = users_in (table_of c.args.lists.now) in
    let i = c.loop-i.i in
    let before = with_names users (take i c.args.names.now) in
    let rest = drop (i + 1) c.args.names.now in
    let left = known_acts (with_name before (slice_index_or c.args.names.now i None)) rest in
    record {
      left = ap (λ us. c.plan_known.new.acts.items ++ known_acts us rest)
          (with_names-next users c.args.names.now i (omega arith))
          ∙ ap (λ xs. xs ++ left) c.in_ok-plan_known.ensures.ok
          ∙ append_assoc c.loop-i.acts.items _ left
          ∙ ap (λ ns. c.loop-i.acts.items ++ known_acts before ns) (drop-next c.args.names.now i None (omega arith))
          ∙ c.loop-i.invariant.left;
      kept = keeps-on _ _ _ c.loop-i.invariant.kept (_, c.in_ok-plan_known.ensures.ok);
    }
