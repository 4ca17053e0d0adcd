use Rattle.std.proofs.Common.{◌∙◌, sym, arith}
use Rattle.keys.proofs.Lines.{shortened-on, shortened-at}
use Rattle.keys.proofs.line.Line.shorten.Goals as goal

pub loop-self-preserved : goal.loop-self-preserved
loop-self-preserved c = (
  sym (shortened-on c.loop-self.self-inside.bytes c.loop-self.self-inside.count _ c.loop-self-test.true
      (omega (arith, c.loop-self.invariant.1, c.loop-self.invariant.2)) (sym c.if-not-is_trailing.ensures))
      ∙ c.loop-self.invariant.0,
  omega (arith, c.loop-self.invariant.1),
  c.loop-self.invariant.2,
)

pub returns-then-not-is_trailing : goal.returns-then-not-is_trailing
returns-then-not-is_trailing c =
    shortened-at c.loop-self.self-inside.bytes c.loop-self.self-inside.count _ c.loop-self-test.true
    (omega (arith, c.loop-self.invariant.1, c.loop-self.invariant.2)) (sym c.if-not-is_trailing.ensures)
    ∙ c.loop-self.invariant.0
