use Rattle.hub_check.proofs.Vocabulary.{◌∙◌, sym, arith, ap, list_all, drop-next, drop-past, Verdict, is_client_of}
use Rattle.hub_check.proofs.Vocabulary.{user_of}
use Rattle.hub_check.proofs.Folding.{all_next, all_fails}
use Rattle.hub_check.proofs.verdicts.are_of_client.Goals as goal

pub returns-then-not-is_client_of : goal.returns-then-not-is_client_of
returns-then-not-is_client_of c = λ edition owner h s.
    let p = λ (v : Verdict). is_client_of h c.args.client (user_of v) in
    all_fails p _ _ _ _ (drop-next c.args.verdicts.now c.loop-verdict.verdict-index _ (omega arith))
    (c.loop-verdict.invariant edition owner h s)
    (ap (is_client_of h c.args.client) (sym c.user_of.ensures)
    ∙ (sym (c.is_client_of.ensures edition owner h s) ∙ c.if-not-is_client_of.true))

pub loop-verdict-preserved : goal.loop-verdict-preserved
loop-verdict-preserved c = λ edition owner h s.
    let p = λ (v : Verdict). is_client_of h c.args.client (user_of v) in
    all_next p _ _ _ _ (drop-next c.args.verdicts.now c.loop-verdict.verdict-index _ (omega arith))
    (c.loop-verdict.invariant edition owner h s)
    (ap (is_client_of h c.args.client) (sym c.user_of.ensures)
    ∙ (sym (c.is_client_of.ensures edition owner h s) ∙ c.if-not-is_client_of.false))

pub returns : goal.returns
returns c = λ edition owner h s.
    let p = λ (v : Verdict). is_client_of h c.args.client (user_of v) in
    sym (c.loop-verdict.invariant edition owner h s
    ∙ ap (list_all p) (drop-past c.loop-verdict.verdict-index c.args.verdicts.now c.loop-verdict-test.false))
