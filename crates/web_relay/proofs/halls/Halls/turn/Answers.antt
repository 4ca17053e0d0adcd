use Rattle.web_relay.proofs.Vocabulary.{refl, ap, arith, Halls, AtBoth, HallTurns}
use Rattle.web_relay.proofs.Turns.{done-more, rest-more, all-done}
use Rattle.web_relay.proofs.halls.Halls.turn.Goals as goal

pub places-preserved : goal.places-preserved
places-preserved g c =
    let old = c.args.self.now.list in
    let now = c.places.self.list in
    let new = c.turn_at.new.halls in
    let at = c.places.place in
    let then = c.turn_at.ensures in
    let before = c.places.invariant in record {
      turned = done-more (λ _. AtBoth (HallTurns g.S.WebStream)) old now at before.turned before.rest new then.at
          then.others;
      rest = rest-more (λ _. AtBoth (HallTurns g.S.WebStream)) old now at before.turned before.rest new then.others;
      same = ap (λ (h : Halls g.row.S.Denot). record h { list = new }) before.same;
      all = before.all;
    }

pub returns-clause-each : goal.returns-clause-each
returns-clause-each g c =
    let before = c.places.invariant in
    all-done (λ _. AtBoth (HallTurns g.S.WebStream)) c.args.self.now.list c.places.self.list c.places.place
    before.turned before.rest (λ _. refl)
    (omega (arith, before.all))
