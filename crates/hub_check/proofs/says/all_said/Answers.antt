use Rattle.hub_check.proofs.Vocabulary.{◌∙◌, refl, sym, subst, arith, false≢true, drop-next, drop-past, AreSaid}
use Rattle.hub_check.proofs.says.all_said.Goals as goal

pub returns-then-not-says : goal.returns-then-not-says
returns-then-not-says c = λ edition h s.
    let P = AreSaid c.args.owner h c.args.given.now in
    let next = drop-next c.args.acts.now c.loop-act.act-index _ (omega arith) in
    let i = c.loop-act.invariant edition h s in (
      λ is. absurd (false≢true is),
      λ all. sym c.if-not-says.true ∙ (c.says.ensures edition h s i.1 ∙ (subst P (sym next) (i.0.0 all)).0),
    )

pub loop-act-preserved : goal.loop-act-preserved
loop-act-preserved c = λ edition h s.
    let P = AreSaid c.args.owner h c.args.given.now in
    let next = drop-next c.args.acts.now c.loop-act.act-index _ (omega arith) in
    let i = c.loop-act.invariant edition h s in
    let one = sym (c.says.ensures edition h s i.1) ∙ c.if-not-says.false in (
      (λ all. (subst P (sym next) (i.0.0 all)).1, λ rest. i.0.1 (subst P next (one, rest))),
      c.named_after-named.ensures c.args.owner h c.args.given.now one i.1,
    )

pub returns : goal.returns
returns c = λ edition h s.
    let P = AreSaid c.args.owner h c.args.given.now in
    let i = c.loop-act.invariant edition h s in (
      λ is. i.0.1 (subst P (sym (drop-past c.loop-act.act-index c.args.acts.now c.loop-act-test.false)) tt),
      λ all. refl,
    )
