use Rattle.std.proofs.Common.{rules}
use Rattle.client_peer.proofs.Sending.{has_back}
use Rattle.client_peer.proofs.peer.Peer.end_sending.Goals as goal

pub returns-then-self-clause-back : goal.returns-then-self-clause-back
returns-then-self-clause-back c =
    has_back c.put_back.result c.args.self.now c.put_back.new.self c.args.batch _ (search rules) (search rules)
    (search rules) c.put_back.ensures.back
