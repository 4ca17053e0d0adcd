use Rattle.std.proofs.Common.{◌≡◌, true, false, arith}
use Rattle.server_connections.proofs.Looking.{looked_at}
use Rattle.server_connections.proofs.connections.Connections.any_awaits.Goals as goal

pub keys-preserved : goal.keys-preserved
keys-preserved g c = (
  omega (arith, c.keys.invariant.0, c.in-Some.ensures.some.behind),
  looked_at c.args.self.now.peers c.args.what c.args.self.now.awake c.keys.from c.in-Some.key c.keys.invariant.1
      c.in-Some.ensures.some (λ is.
      let yes : c.awaits_at.result ≡ true = c.awaits_at.ensures.1 is in
      let no : c.awaits_at.result ≡ false = c.if-awaits_at.false in
      absurd (cc)),
)
