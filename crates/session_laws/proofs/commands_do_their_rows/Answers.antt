use Rattle.session_laws.proofs.commands_do_their_rows.Goals as goal
use Rattle.session_laws.proofs.RowsByLines.{rows_done, refused_so}

pub returns-clause-done : goal.returns-clause-done
returns-clause-done c = λ t e step. rows_done t e.event e.reply e.acts e.verdicts e.effects step

pub returns-clause-refused : goal.returns-clause-refused
returns-clause-refused c = λ t e step. refused_so t e.event e.reply e.acts e.verdicts e.effects step
