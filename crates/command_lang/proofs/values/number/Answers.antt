use Rattle.std.proofs.Common.{sym, ◌∙◌}
use Rattle.command_lang.proofs.Digits.{number-more, digits-more, power-more}
use Rattle.command_lang.proofs.values.number.Goals as goal

pub loop-c-preserved : goal.loop-c-preserved
loop-c-preserved c = (
  number-more c.args.text.now _ _ c.loop-c-test.true c.loop-c.invariant.0,
  digits-more c.args.text.now _
      c.loop-c-test.true c.loop-c.invariant.1 (sym c.is_digit.ensures ∙ c.if-not-is_digit.false),
  power-more _ _ _
      c.loop-c.invariant.2 (sym c.is_digit.ensures ∙ c.if-not-is_digit.false),
)
