use Rattle.attach_proto.proofs.Joining.{reads_spelled}
use Rattle.attach_proto.proofs.writing.spelled_ones_are_read.Goals as goal

pub returns : goal.returns
returns c = reads_spelled
