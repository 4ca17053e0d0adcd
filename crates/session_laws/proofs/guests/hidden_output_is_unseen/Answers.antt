use Rattle.session_laws.proofs.guests.hidden_output_is_unseen.Goals as goal
use Rattle.session_laws.proofs.Unseeing.{unseen}

pub returns : goal.returns
returns c user start run other ran also is = unseen user start run other ran also is
