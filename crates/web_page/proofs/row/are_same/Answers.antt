use Rattle.std.proofs.Common.{arith, refl, sym, ◌∙◌}
use Rattle.std.proofs.lemmas.List.{take_all, take_more_same, get_or_default}
use Rattle.cells.specs.Line.{blank}
use Rattle.web_page.proofs.row.are_same.Goals as goal

pub loop-i-preserved : goal.loop-i-preserved
loop-i-preserved c =
    take_more_same c.args.a.now c.args.b.now c.loop-i.i blank (omega arith) (omega arith) c.loop-i.invariant
    (sym (c.index-a-i.is ∙ get_or_default c.args.a.now c.loop-i.i c.index-a-i.result blank (omega arith))
    ∙ c.is_same.ensures.0 c.if-not-is_same.false
    ∙ c.index-b-i.is ∙ get_or_default c.args.b.now c.loop-i.i c.index-b-i.result blank (omega arith))

pub returns : goal.returns
returns c = (
  λ yes. sym (take_all c.loop-i.i c.args.a.now (omega arith))
      ∙ (c.loop-i.invariant ∙ take_all c.loop-i.i c.args.b.now (omega arith)),
  λ same. refl,
)
