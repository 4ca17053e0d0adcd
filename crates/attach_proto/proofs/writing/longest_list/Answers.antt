use Rattle.attach_proto.proofs.Joining.{longest}
use Rattle.attach_proto.proofs.writing.longest_list.Goals as goal

pub returns : goal.returns
returns c = λ r messages others stream rest h q. longest r messages others stream h.rest rest h.splits h.ends q
