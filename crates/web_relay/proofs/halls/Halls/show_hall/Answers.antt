use Rattle.web_relay.proofs.Vocabulary.{◌≡◌, refl, subst, sym, Hall, Watches}
use Rattle.web_relay.proofs.Sitting.{watches_last, watches_on}
use Rattle.web_relay.proofs.Turns.{hall-is}
use Rattle.web_relay.proofs.halls.Halls.show_hall.Goals as goal

pub returns-then-hall-clause-hall : goal.returns-then-hall-clause-hall
returns-then-hall-clause-hall g c = λ hall found.
    let there : Hall g.row.S.Denot = c.in-Some.hall.now in
    let e : there ≡ hall =
    hall-is c.args.self.now.list c.args.number there hall (sym c.in-Some.ensures.value) found in (
      c.show.new.self,
      refl,
      subst (λ (h : Hall g.row.S.Denot). Watches h c.show.new.self c.args.relay.now c.lose.new.self) e
          (watches_last there c.show.new.self c.args.relay.now c.show.new.relay c.lose.new.self c.show.ensures
          c.if-hall.true c.lose.ensures),
    )

pub returns-else-hall-clause-hall : goal.returns-else-hall-clause-hall
returns-else-hall-clause-hall g c = λ hall found.
    let there : Hall g.row.S.Denot = c.in-Some.hall.now in
    let e : there ≡ hall =
    hall-is c.args.self.now.list c.args.number there hall (sym c.in-Some.ensures.value) found in (
      c.show.new.self,
      refl,
      subst (λ (h : Hall g.row.S.Denot). Watches h c.show.new.self c.args.relay.now c.show.new.relay) e
          (watches_on there c.show.new.self c.args.relay.now c.show.new.relay c.show.new.relay c.show.ensures
          c.if-hall.false refl),
    )
