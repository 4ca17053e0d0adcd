use Rattle.hub_check.proofs.Vocabulary.{subst, sym, arith, drop-next, AreTrue}
use Rattle.hub_check.proofs.verdicts.are_true.Goals as goal

pub loop-verdict-preserved : goal.loop-verdict-preserved
loop-verdict-preserved c = λ edition owner h s.
    let next = drop-next c.args.verdicts.now c.loop-verdict.verdict-index _ (omega arith) in
    let i = c.loop-verdict.invariant edition owner h s in
    let one = (c.is_true.ensures edition owner h s).0 c.if-not-is_true.false in (
      λ all. (subst (AreTrue edition owner h) (sym next) (i.0 all)).1,
      λ rest. i.1
          (subst (AreTrue edition owner h) next (one, rest)),
    )
