use Rattle.std.proofs.Common.{subst}
use Rattle.std.proofs.lemmas.Bool.{false≢true}
use Rattle.command_lang.specs.Relation.{Relates}
use Rattle.command_lang.specs.declared.command.Command.TheVariants as command
use Rattle.server_steps.proofs.Quitting.{no_command, one_command}
use Rattle.server_steps.proofs.submitted.is_quit.Goals as goal

pub returns-in-Ok : goal.returns-in-Ok
returns-in-Ok c = (
  λ yes. subst (Relates c.args.line.now) (c.quits.ensures.0 yes) c.in-Ok.ensures.ok,
  λ is. c.quits.ensures.1 (one_command c.args.line.now c.in-Ok.command command.Quit c.in-Ok.ensures.ok is),
)

pub returns-in_default : goal.returns-in_default
returns-in_default c = (
  λ no. absurd (false≢true no),
  λ is. absurd (no_command c.args.line.now command.Quit c.in-Err.fault c.in-Err.ensures.err
      c.in_default.not-NoMemory is),
)
