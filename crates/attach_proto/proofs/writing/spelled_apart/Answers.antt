use Rattle.attach_proto.proofs.Joining.{spelled_apart}
use Rattle.attach_proto.proofs.writing.spelled_apart.Goals as goal

pub returns : goal.returns
returns c = spelled_apart
