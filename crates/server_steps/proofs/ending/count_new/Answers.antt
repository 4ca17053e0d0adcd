use Rattle.std.proofs.Common.{◌≡◌, ◌∙◌, ℕ, ap, arith}
use Rattle.server_steps.specs.Ending.{new_below}
use Rattle.server_steps.proofs.Visiting.{below_next}
use Rattle.server_steps.proofs.ending.count_new.Goals as goal

pub keys-preserved : goal.keys-preserved
keys-preserved g c = (
  below_next c.args.connections.now.peers c.keys.key c.keys.count c.one_more-count.result c.new_number.result
      c.new_number.ensures c.keys.invariant.0 c.one_more-count.ensures.count,
  omega (arith, c.one_more-count.ensures.most, c.keys.invariant.1),
)

pub returns : goal.returns
returns g c =
    let e : c.keys.key ≡ c.args.connections.now.peers.capacity = omega (arith, c.end-key-end.ensures.end) in
    c.keys.invariant.0 ∙ ap (λ (n : ℕ). new_below c.args.connections.now.peers n) e
