use Rattle.trail_lines.proofs.Headed.{reads_headers, reads_ends}
use Rattle.trail_lines.proofs.headings_are_read.Goals as goal

pub returns : goal.returns
returns c = record { headers = reads_headers; ends = reads_ends }
