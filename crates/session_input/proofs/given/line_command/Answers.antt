use Rattle.std.proofs.Common.{sym, ◌∙◌}
use Rattle.session_input.proofs.KeyReading.{line_read, line_faulty_if}
use Rattle.session_input.proofs.given.line_command.Goals as goal

pub returns-in-Ok : goal.returns-in-Ok
returns-in-Ok c =
    line_read c.args.line.now c.in-Ok.command (sym c.is_empty.ensures ∙ c.if-is_empty.false)
    c.in-Ok.ensures.ok

pub returns-in-Err : goal.returns-in-Err
returns-in-Err c =
    line_faulty_if c.faulty_line.result c.args.line.now c.in-Err.fault
    (sym c.is_empty.ensures ∙ c.if-is_empty.false) c.in-Err.ensures.err c.faulty_line.ensures
