use Rattle.web_relay.proofs.Vocabulary.{◌≡◌, ◌+◌, ℕ, Option, None, arith, rules, subst, sym, get}
use Rattle.web_relay.proofs.StandIn.{BestBelow, best_more, best_none, best_of_all}
use Rattle.web_relay.proofs.halls.Halls.stand_in.Goals as goal
use Rattle.web_relay.proofs.halls.Halls.stand_in.Goals.{in-Some, in_default}

pub halls-preserved : goal.halls-preserved
halls-preserved g c =
    let size = c.args.size in
    let list = c.args.self.now.list in
    let place = c.halls.place in
    let best = c.halls.best in
    let below = c.halls.invariant.below in
    elim c.match-get.branch [
      | in-Some w ↦ record {
        below = subst (λ (o : Option ℕ). BestBelow size list (place + 1) o) (sym w.best-is)
            (best_more size list place w.in-Some.hall.now (sym w.in-Some.ensures) best w.better-best.result
            w.better-best.ensures below);
        all = c.halls.invariant.all;
      }
      | in_default w ↦
          let none : get list place ≡ None = search rules in record {
            below = subst (λ (o : Option ℕ). BestBelow size list (place + 1) o) (sym w.best-is)
                (best_none size list place best none below);
            all = c.halls.invariant.all;
          }
    ]

pub returns-clause-some : goal.returns-clause-some
returns-clause-some g c =
    best_of_all c.args.size c.args.self.now.list c.halls.place (omega (arith, c.halls.invariant.all)) c.halls.best
    c.halls.invariant.below
