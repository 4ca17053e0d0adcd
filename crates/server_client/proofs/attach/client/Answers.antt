use Rattle.std.proofs.Common.{Err, false, inr}
use Rattle.server_client.proofs.attach.client.Goals as goal

pub returns : goal.returns
returns g c = inr (c.in-Ok.arguments, c.in-Ok.ensures.ok, (false, Err c.in-Err-run.fault, c.status.ensures))
