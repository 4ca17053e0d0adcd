use Rattle.web_relay.proofs.Vocabulary.{refl, ap, ◌∙◌, arith, Halls, Closes}
use Rattle.web_relay.proofs.Turns.{done-more, rest-more, all-done}
use Rattle.web_relay.proofs.halls.Halls.close.Goals as goal

pub places-preserved : goal.places-preserved
places-preserved g c =
    let old = c.args.self.now.list in
    let now = c.places.self.list in
    let new = c.close_at.new.self.list in
    let at = c.places.place in
    let then = c.close_at.ensures in
    let before = c.places.invariant in record {
      closed = done-more (λ _. Closes c.args.now) old now at before.closed before.rest new then.closes then.others;
      rest = rest-more (λ _. Closes c.args.now) old now at before.closed before.rest new then.others;
      same = then.same ∙ ap (λ (h : Halls g.row.S.Denot). record h { list = new }) before.same;
      all = before.all;
    }

pub returns-clause-closes : goal.returns-clause-closes
returns-clause-closes g c =
    let before = c.places.invariant in
    all-done (λ _. Closes c.args.now) c.args.self.now.list c.places.self.list c.places.place before.closed before.rest
    (λ _. refl) (omega (arith, before.all))
