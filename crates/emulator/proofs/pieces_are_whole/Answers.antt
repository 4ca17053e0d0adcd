use Rattle.emulator.proofs.Feeding.{has-read-both}
use Rattle.emulator.proofs.pieces_are_whole.Goals as goal

pub returns : goal.returns
returns c = has-read-both
