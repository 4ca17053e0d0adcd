use Rattle.std.proofs.Common.{arith, rules}
use Rattle.web_options.proofs.Origins.{then_more, wrong_at}
use Rattle.web_options.proofs.listening.named_origins.Goals as goal

pub returns-in_err-add_origin-clause-fault : goal.returns-in_err-add_origin-clause-fault
returns-in_err-add_origin-clause-fault c =
    let wrong =
    wrong_at c.args.named.now c.loop-name.name-index _ _ (omega arith) c.loop-name.invariant.1
    c.in_err-add_origin.ensures.fault in
    search (rules, wrong)

pub loop-name-preserved : goal.loop-name-preserved
loop-name-preserved c =
    then_more c.args.named.now c.loop-name.name-index _ _ _ (omega arith) c.loop-name.invariant
    c.in_ok-add_origin.ensures.ok.0 c.in_ok-add_origin.ensures.ok.1
