use Rattle.web_relay.proofs.Vocabulary.{refl, arith, AtBoth, Chooses}
use Rattle.web_relay.proofs.Turns.{done-more, rest-more, all-done}
use Rattle.web_relay.proofs.halls.choose_all.Goals as goal

pub places-preserved : goal.places-preserved
places-preserved g c =
    let P = AtBoth (Chooses c.args.choice.now c.args.now) in
    let old = c.args.halls.now in
    let now = c.places.halls in
    let then = c.choose_at.ensures in
    let before = c.places.invariant in record {
      chosen = done-more (λ _. P) old now c.places.place before.chosen before.rest c.choose_at.new.halls then.at
          then.others;
      rest = rest-more (λ _. P) old now c.places.place before.chosen before.rest c.choose_at.new.halls then.others;
      all = before.all;
    }

pub returns : goal.returns
returns g c =
    let before = c.places.invariant in
    all-done (λ _. AtBoth (Chooses c.args.choice.now c.args.now)) c.args.halls.now c.places.halls c.places.place
    before.chosen before.rest (λ _. refl) (omega (arith, before.all))
