use Rattle.web_relay.proofs.Vocabulary.{◌≡◌, ◌≢◌, ◌∙◌, ap, inl, inr, refl, rules, sym, Visitor}
use Rattle.web_relay.proofs.Sitting.{misses_hall}
use Rattle.web_relay.proofs.seating.sit.Goals as goal

pub returns-then-eq : goal.returns-then-eq
returns-then-eq g c =
    let stays : c.args.found ≡ c.miss.new.relay.hall = search rules in (
      c.miss.new.relay,
      c.miss.ensures,
      inl (stays ∙ misses_hall c.args.found c.args.relay.now c.miss.new.relay c.miss.ensures, refl, refl),
    )

pub returns : goal.returns
returns g c =
    let mid = c.miss.new.relay in
    let kept : mid.hall ≡ c.args.relay.now.hall = misses_hall c.args.found c.args.relay.now mid c.miss.ensures in
    let differs : c.args.found ≢ mid.hall = search rules in (
      mid,
      c.miss.ensures,
      inr (
        (λ e. differs (e ∙ sym kept)),
        ap (λ (v : Visitor). record mid { hall = c.args.found; visitor = v }) c.change_page.ensures,
        rw (← kept) (search rules),
      ),
    )
