use Rattle.trail_lines.proofs.Told.{reads_printed, is_spelled_so}
use Rattle.trail_lines.proofs.lines_are_read.Goals as goal

pub returns : goal.returns
returns c = record { again = reads_printed; spelled = is_spelled_so }
