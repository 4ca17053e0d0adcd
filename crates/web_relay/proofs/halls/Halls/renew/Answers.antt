use Rattle.web_relay.proofs.Vocabulary.{ℕ, ◌<◌, refl, inl, ap, ◌∙◌, arith, get, Halls, Renews}
use Rattle.web_relay.proofs.Turns.{done-more, rest-more, all-done, renews-wide}
use Rattle.web_relay.specs.Halls.{opening}
use Rattle.web_relay.proofs.halls.Halls.renew.Goals as goal

pub places-preserved : goal.places-preserved
places-preserved g c =
    let reaches = g.S.BridgeStream.reaches in
    let by = opening c.args.around in
    let first = c.args.self.now.next in
    let mid = c.places.self.next in
    let last = c.renew_at.new.self.next in
    let old = c.args.self.now.list in
    let now = c.places.self.list in
    let new = c.renew_at.new.self.list in
    let at = c.places.place in
    let then = c.renew_at.ensures in
    let before = c.places.invariant in
    let renewed : (q : ℕ) → q < at → Renews reaches by first last q (get old q) (get now q) =
    λ q low. renews-wide reaches by first first mid last q (omega arith) then.next (get old q) (get now q)
    (before.renewed q low) in record {
      renewed =
          done-more (Renews reaches by first last) old now at renewed before.rest new
          (renews-wide reaches by first mid last last at before.next (omega arith) (get now at) (get new at) then.renews)
          then.others;
      rest = rest-more (Renews reaches by first last) old now at renewed before.rest new then.others;
      next = omega (arith, before.next, then.next);
      same = then.same ∙ ap (λ (h : Halls g.row.S.Denot). record h { list = new; next = last }) before.same;
      all = before.all;
    }

pub returns-clause-renews : goal.returns-clause-renews
returns-clause-renews g c =
    let before = c.places.invariant in
    all-done (Renews g.S.BridgeStream.reaches (opening c.args.around) c.args.self.now.next c.places.self.next)
    c.args.self.now.list c.places.self.list c.places.place before.renewed before.rest (λ _. inl ((λ h. h), refl)) (omega (arith, before.all))
