use Rattle.std.proofs.Common.{refl}
use Rattle.std.proofs.lemmas.Result.{on_ok_weaker}
use Rattle.client_peer.specs.declared.peer.Peer.{Peer}
use Rattle.client_peer.specs.Showing.{PassesOn}
use Rattle.client_peer.proofs.Passing.{passes_keeps, passes_then}
use Rattle.client_peer.proofs.peer.Peer.show.Goals as goal

pub returns-clause-ok : goal.returns-clause-ok
returns-clause-ok c =
    let old : Peer = c.args.self.now in
    let new : Peer = c.put_draw.new.self in
    on_ok_weaker {Q = PassesOn old new} c.put_draw.result
    (λ p. passes_then old _ new (passes_keeps old _ (record { subcommand = refl; draws = refl; kept = refl })) p)
    c.put_draw.ensures.ok

pub returns-then-self-clause-ok : goal.returns-then-self-clause-ok
returns-then-self-clause-ok c =
    passes_keeps c.args.self.now _ (record { subcommand = refl; draws = refl; kept = refl })
