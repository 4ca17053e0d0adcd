use Rattle.attach_proto.proofs.Joining.{one_reading}
use Rattle.attach_proto.proofs.writing.one_reading.Goals as goal

pub returns : goal.returns
returns c = one_reading
