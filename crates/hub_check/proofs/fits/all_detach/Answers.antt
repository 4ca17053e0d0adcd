use Rattle.hub_check.proofs.Vocabulary.{◌∙◌, sym, arith, ap, list_all, drop-next, drop-past, Act, detaches}
use Rattle.hub_check.proofs.Vocabulary.{is_client_of}
use Rattle.hub_check.proofs.Folding.{all_next, all_fails}
use Rattle.hub_check.proofs.fits.all_detach.Goals as goal

pub returns-then-not-detaches : goal.returns-then-not-detaches
returns-then-not-detaches c = λ edition owner h s.
    let p = λ (a : Act). detaches (is_client_of h c.args.client) c.args.client a in
    all_fails p _ _ _ _ (drop-next c.args.acts.now c.loop-act.act-index _ (omega arith))
    (c.loop-act.invariant edition owner h s)
    (sym (c.detaches.ensures edition owner h s) ∙ c.if-not-detaches.true)

pub loop-act-preserved : goal.loop-act-preserved
loop-act-preserved c = λ edition owner h s.
    let p = λ (a : Act). detaches (is_client_of h c.args.client) c.args.client a in
    all_next p _ _ _ _ (drop-next c.args.acts.now c.loop-act.act-index _ (omega arith))
    (c.loop-act.invariant edition owner h s)
    (sym (c.detaches.ensures edition owner h s) ∙ c.if-not-detaches.false)

pub returns : goal.returns
returns c = λ edition owner h s.
    let p = λ (a : Act). detaches (is_client_of h c.args.client) c.args.client a in
    sym (c.loop-act.invariant edition owner h s
    ∙ ap (list_all p) (drop-past c.loop-act.act-index c.args.acts.now c.loop-act-test.false))
