use Rattle.std.proofs.Common.{ℕ, subst}
use Rattle.server_steps.specs.Asking.{ReadsAt}
use Rattle.server_loop.proofs.own.Loop.serve_once.Goals as goal

pub returns : goal.returns
returns g c = (
  c.read-arrival.result,
  c.read-arrival.new.connections,
  subst (λ (n : ℕ). ReadsAt g.S.PeerStream n c.args.self.now.reading.buffer.len c.args.key
      c.args.self.now.connections c.read-arrival.result c.read-arrival.new.connections) c.millis-now.ensures
      (subst (λ (n : ℕ). ReadsAt g.S.PeerStream c.millis-now.result n c.args.key
      c.args.self.now.connections c.read-arrival.result c.read-arrival.new.connections) c.as_mut_slice-buffer.ensures.len
      c.read-arrival.ensures),
  c.serve_after.ensures,
)
