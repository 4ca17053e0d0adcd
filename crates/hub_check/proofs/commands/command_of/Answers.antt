use Rattle.std.proofs.Common.{ap, inl, inr}
use Rattle.command_lang.proofs.OneReading.{not_both}
use Rattle.hub_check.proofs.Folding.{one_command}
use Rattle.hub_check.proofs.commands.command_of.Goals as goal

pub returns-in-Ok : goal.returns-in-Ok
returns-in-Ok c =
    (c.in-Ok.ensures.ok, λ d relates. one_command c.args.line.now c.in-Ok.command d c.in-Ok.ensures.ok relates)

pub returns-in_default : goal.returns-in_default
returns-in_default c = λ d relates.
    elim c.in-Err.ensures.err [
      | inl none ↦ c.in_default.not-NoMemory (ap (λ f. f.kind) none)
      | inr refuses ↦ not_both c.args.line.now d
          c.in-Err.fault relates refuses
    ]
