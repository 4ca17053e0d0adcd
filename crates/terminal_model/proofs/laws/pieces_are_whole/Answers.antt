use Rattle.terminal_model.proofs.Readings.{reads-append, writes_all-append, writes_all-output}
use Rattle.terminal_model.proofs.laws.pieces_are_whole.Goals as goal

pub returns : goal.returns
returns c = record { bytes = reads-append; writing = writes_all-append; output = writes_all-output }
