use Rattle.acl.proofs.Vocabulary.{◌∙◌, ◌+◌, ap, sym, arith, drop, length, take, None, change_fault, with_names}
use Rattle.acl.proofs.Vocabulary.{users_in, table_of}
use Rattle.acl.proofs.InPlace.{drop-next}
use Rattle.acl.proofs.NameLemmas.{with_names-next}
use Rattle.acl.proofs.PlanLemmas.{option_or-none}
use Rattle.acl.proofs.plan.change_fault.Goals as goal

pub loop-i-preserved : goal.loop-i-preserved
loop-i-preserved c =
    let owner = (table_of c.args.lists.now).owner in
    let users = users_in (table_of c.args.lists.now) in
    let i = c.loop-i.i in
    let known = with_names-next users c.args.names.now i (omega arith) in
    record {
      fault = ap (λ us. change_fault owner us (drop (i + 1) c.args.names.now)) known
          ∙ sym (option_or-none _ _ c.in-Ok.ensures.none)
          ∙ ap (change_fault owner (with_names users (take i c.args.names.now)))
          (drop-next c.args.names.now i None (omega arith))
          ∙ c.loop-i.invariant.fault;
      count = c.in-Ok.ensures.ok ∙ ap length (sym known);
    }
