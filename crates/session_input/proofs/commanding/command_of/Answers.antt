use Rattle.session_input.proofs.Vocabulary.{Err, sym, subst, Refusal, Parses}
use Rattle.session_input.proofs.Answered.{line_says, line_fails}
use Rattle.session_input.proofs.commanding.command_of.Goals as goal

pub returns-in-Ok : goal.returns-in-Ok
returns-in-Ok c = line_says c.args.line.now c.in-Ok.command c.in-Ok.ensures.ok

pub returns-in-Err : goal.returns-in-Err
returns-in-Err c =
    subst (λ (r : Refusal). Parses c.args.line.now (Err r)) (sym c.line_refusal.ensures)
    (line_fails c.args.line.now c.in-Err.fault c.in-Err.ensures.err)
