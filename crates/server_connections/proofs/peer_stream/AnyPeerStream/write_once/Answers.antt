use Rattle.std.proofs.Common.{◌∙◌, ℕ, ap}
use Rattle.server_connections.specs.Streaming.{sent}
use Rattle.server_connections.proofs.Writing.{sent_none}
use Rattle.server_connections.proofs.peer_stream.AnyPeerStream.write_once.Goals as goal

pub returns-in-Ok-eq0-clause-sent : goal.returns-in-Ok-eq0-clause-sent
returns-in-Ok-eq0-clause-sent g c =
    c.in-Ok-eq0.ensures.ok ∙ ap (λ (n : ℕ). sent n c.args.turn.now) c.in-Ok-eq0.field-0-test ∙ sent_none c.args.turn.now
