use Rattle.session_laws.proofs.keys_do_their_rows.Goals as goal
use Rattle.session_laws.proofs.RowsByKeys.{rows_keyed}

pub returns : goal.returns
returns c = λ t e step. rows_keyed t e.event e.reply e.acts e.verdicts e.effects step
