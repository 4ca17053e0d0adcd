use Rattle.std.proofs.Common.{◌≡◌, ◌∙◌, ℕ, ap, arith}
use Rattle.web_relay.specs.Places.{count_below, is_neighbour}
use Rattle.web_relay.proofs.Room.{below_next}
use Rattle.web_relay.proofs.places.neighbours.Goals as goal

pub numbers-preserved : goal.numbers-preserved
numbers-preserved g c = (
  below_next (is_neighbour c.args.place c.args.address.now) c.args.relays.now c.numbers.number c.numbers.count
      c.one_more-count.result c.is_neighbour.result
      c.is_neighbour.ensures c.numbers.invariant.0 c.one_more-count.ensures.value,
  omega (arith, c.one_more-count.ensures.most, c.numbers.invariant.1),
)

pub returns : goal.returns
returns g c =
    let e : c.numbers.number ≡ c.args.relays.now.capacity = omega (arith, c.capacity-number-end.ensures.value) in
    c.numbers.invariant.0 ∙ ap (λ (n : ℕ). count_below (is_neighbour c.args.place c.args.address.now)
    c.args.relays.now n) e
