use Rattle.std.proofs.Common.{refl}
use Rattle.client_peer.proofs.Closing.{closed_same}
use Rattle.client_peer.proofs.Passing.{passes_keeps, passes_same}
use Rattle.client_peer.proofs.peer.Peer.put_message.Goals as goal

pub returns-in_default-clause-ok : goal.returns-in_default-clause-ok
returns-in_default-clause-ok c = passes_same c.args.self.now

pub returns-in_default-clause-closed : goal.returns-in_default-clause-closed
returns-in_default-clause-closed c = closed_same c.args.self.now

pub returns-in-Welcome-clause-ok : goal.returns-in-Welcome-clause-ok
returns-in-Welcome-clause-ok c =
    passes_keeps c.args.self.now _ (record { subcommand = refl; draws = refl; kept = refl })

pub returns-in_ok-hear_later-in-Say-clause-ok : goal.returns-in_ok-hear_later-in-Say-clause-ok
returns-in_ok-hear_later-in-Say-clause-ok c =
    passes_keeps c.args.self.now _ (record { subcommand = refl; draws = refl; kept = refl })
