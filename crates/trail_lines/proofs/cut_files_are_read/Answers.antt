use Rattle.trail_lines.proofs.Cut.{cut_read, file_read}
use Rattle.trail_lines.proofs.cut_files_are_read.Goals as goal

pub returns : goal.returns
returns c = record { cut = cut_read; read = file_read }
