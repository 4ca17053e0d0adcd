use Rattle.cells.proofs.Vocabulary.{◌+◌, ◌∙◌, refl, sym, arith, list_all_more, is_plain}
use Rattle.cells.proofs.OverPlain.{next_written}
use Rattle.cells.proofs.texts.put_plain.Goals as goal

pub loop-count-preserved : goal.loop-count-preserved
loop-count-preserved c = (
  next_written c.args.at c.loop-count.count (c.loop-count.count + 1) c.args.bytes.now c.args.cells.now
      c.loop-count.cells _ (λ k past. c.requires.plain k (omega arith))
      (omega (arith, c.min-room.ensures, c.loop-count-test.true, c.requires.inside))
      (omega (arith, c.min-room.ensures, c.loop-count-test.true)) refl c.loop-count.invariant.0,
  list_all_more is_plain c.args.bytes.now c.loop-count.count 0
      (omega (arith, c.min-room.ensures, c.loop-count-test.true))
      ∙ rw (c.loop-count.invariant.1, sym c.is_plain.ensures ∙ c.if-not-is_plain.false) refl,
)
