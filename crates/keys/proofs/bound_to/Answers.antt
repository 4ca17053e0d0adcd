use Rattle.std.proofs.Common.{ap, ◌∙◌, arith, Some}
use Rattle.command_lang.specs.declared.command.Command.TheVariants.{Select}
use Rattle.keys.proofs.Digits.{digit_bound}
use Rattle.keys.proofs.bound_to.Goals as goal

pub returns-then-key-le57 : goal.returns-then-key-le57
returns-then-key-le57 c = ap (λ d. Some (Select d)) (c.new.ensures ∙ c.in_ok-number.ensures.ok)
    ∙ digit_bound c.args.key (omega arith) (omega arith)
