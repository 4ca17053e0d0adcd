use Rattle.web_relay.proofs.Vocabulary.{◌≢◌, ◌-◌, ◌/◌, ◌≤◌, ◌<◌, ℕ, List, [], sym, ap, ◌∙◌, rules, refl}
use Rattle.web_relay.proofs.Vocabulary.{arith, is_neighbour}
use Rattle.web_relay.specs.Places.{count_below}
use Rattle.web_relay.proofs.Room.{few, many}
use Rattle.web_relay.proofs.places.is_full.Goals as goal

pub returns-then-neighbours-saturating_sub : goal.returns-then-neighbours-saturating_sub
returns-then-neighbours-saturating_sub g c = λ relay found.
    let less : c.neighbours.result < c.args.most - c.args.most / 4 = omega arith in (
      λ t. cc,
      λ full.
          absurd
          (few c.args.relays.now c.args.place c.args.most c.others.result c.neighbours.result c.in-Some.relay.now relay
          (sym c.in-Some.ensures) found c.others.ensures (omega arith)
          (c.neighbours.ensures
          ∙ ap (λ (a : List ℕ). count_below (is_neighbour c.args.place a) c.args.relays.now c.args.relays.now.capacity)
          c.as_slice-address.ensures.value)
          less full),
    )

pub returns : goal.returns
returns g c = λ relay found.
    let known : c.in-Some.relay.now.visitor.address.items ≢ [] = search rules in
    let more : c.args.most - c.args.most / 4 ≤ c.neighbours.result = omega arith in (
      λ t.
          many c.args.relays.now c.args.place c.args.most c.others.result c.neighbours.result c.in-Some.relay.now relay
          (sym c.in-Some.ensures) found c.others.ensures (omega arith)
          (c.neighbours.ensures
          ∙ ap (λ (a : List ℕ). count_below (is_neighbour c.args.place a) c.args.relays.now c.args.relays.now.capacity)
          c.as_slice-address.ensures.value)
          known more,
      λ full. refl,
    )
