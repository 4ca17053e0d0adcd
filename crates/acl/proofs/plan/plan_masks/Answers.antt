use Rattle.acl.proofs.Vocabulary.{◌∙◌, ◌++◌, ◌+◌, ap, sym, subst, refl, arith, drop, append_assoc, Err}
use Rattle.acl.proofs.Vocabulary.{err_from_is_err_and, mask_acts, mask_fault, Answers, users_in, table_of}
use Rattle.acl.proofs.InPlace.{drop-next, drop-past}
use Rattle.acl.proofs.PlanLemmas.{keeps-all, keeps-on, keeps-same, append-nil, answers-first, option_or-none}
use Rattle.acl.proofs.plan.plan_masks.Goals as goal

pub loop-entry-init : goal.loop-entry-init
loop-entry-init c = record { left = refl; fault = refl; kept = keeps-all c.args.acts.now.items }

pub loop-entry-preserved : goal.loop-entry-preserved
loop-entry-preserved c =
    let owner = (table_of c.args.lists.now).owner in
    let users = users_in (table_of c.args.lists.now) in
    let next = drop-next c.args.entries.now c.loop-entry.entry-index _ (omega arith) in
    record {
      left = ap (λ xs. xs ++ mask_acts c.args.by (drop (c.loop-entry.entry-index + 1) c.args.entries.now))
          c.in_ok-plan_mask.ensures.ok
          ∙ append_assoc c.loop-entry.acts.items _ _
          ∙ ap (λ xs. c.loop-entry.acts.items ++ mask_acts c.args.by xs) next
          ∙ c.loop-entry.invariant.left;
      fault = sym (option_or-none _ _ c.in_ok-plan_mask.ensures.answer) ∙ ap (mask_fault owner users) next
          ∙ c.loop-entry.invariant.fault;
      kept = keeps-on _ _ _ c.loop-entry.invariant.kept (_, c.in_ok-plan_mask.ensures.ok);
    }

pub returns-in_err-plan_mask-clause-answer : goal.returns-in_err-plan_mask-clause-answer
returns-in_err-plan_mask-clause-answer c =
    let owner = (table_of c.args.lists.now).owner in
    let users = users_in (table_of c.args.lists.now) in
    let next = drop-next c.args.entries.now c.loop-entry.entry-index _ (omega arith) in
    let p = err_from_is_err_and c.from_residual.result c.from_residual.ensures.1 in
    rw (p.1, p.2)
    (subst (Answers {X = Unit {0}} (Err _)) (ap (mask_fault owner users) next ∙ c.loop-entry.invariant.fault)
    (answers-first (Unit {0}) (Unit {0}) _ _ _ c.in_err-plan_mask.ensures.answer))

pub returns-in_err-plan_mask-clause-err : goal.returns-in_err-plan_mask-clause-err
returns-in_err-plan_mask-clause-err c = let p = err_from_is_err_and c.from_residual.result c.from_residual.ensures.1 in
    rw p.1 (keeps-same _ _ _ c.loop-entry.invariant.kept c.in_err-plan_mask.ensures.err)

pub returns-clause-answer : goal.returns-clause-answer
returns-clause-answer c =
    let owner = (table_of c.args.lists.now).owner in
    let users = users_in (table_of c.args.lists.now) in
    sym c.loop-entry.invariant.fault
    ∙ ap (mask_fault owner users) (drop-past c.loop-entry.entry-index c.args.entries.now (omega arith))

pub returns-clause-ok : goal.returns-clause-ok
returns-clause-ok c =
    append-nil c.loop-entry.acts.items
    ∙ ap (λ xs. c.loop-entry.acts.items ++ mask_acts c.args.by xs)
    (sym (drop-past c.loop-entry.entry-index c.args.entries.now (omega arith)))
    ∙ c.loop-entry.invariant.left
