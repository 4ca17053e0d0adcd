use Rattle.session_laws.proofs.guests.new_windows_are_masked.Goals as goal
use Rattle.session_laws.proofs.Masking.{given_by_masks}

pub returns : goal.returns
returns c t e step = given_by_masks t e.event e.reply e.acts e.verdicts e.effects step
