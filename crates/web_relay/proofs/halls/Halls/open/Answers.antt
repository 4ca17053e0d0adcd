use Rattle.std.proofs.Common.{◌≡◌, ◌<◌, ◌∙◌, ℕ, None, Some, ap, inr, subst, sym}
use Rattle.slab.specs.Slab.{SameValues, Updates}
use Rattle.web_relay.proofs.Vocabulary.{Slab, get, Hall, Halls}
use Rattle.web_relay.specs.Halls.{IsTried, OpensAt, opening}
use Rattle.web_relay.proofs.Turns.{some_more}
use Rattle.web_relay.proofs.halls.Halls.open.Goals as goal

pub returns : goal.returns
returns g c =
    let old : Halls g.row.S.Denot = c.args.self.now in
    let mid : Slab (Hall g.row.S.Denot) = c.made.new.self.list in
    let new : Slab (Hall g.row.S.Denot) = c.put.new.halls in
    let hall : Hall g.row.S.Denot = c.in_ok-hall.hall in
    let opens = OpensAt g.S.BridgeStream.reaches (opening c.args.around) in
    let now = c.args.around.now in
    let same : mid ≡ old.list = ap (λ (h : Halls g.row.S.Denot). h.list) c.made.ensures.same in
    record {
      none = λ none. (
        subst (λ (l : Slab (Hall g.row.S.Denot)). SameValues l new) same (c.put.ensures.none none),
        subst (λ (n : ℕ). IsTried g.S.BridgeStream.reaches (opening c.args.around) n) c.vacant_key-place.ensures.value
            (inr (Some hall.stream, c.in_ok-hall.ensures.opens.1)),
      );
      some =
          some_more (λ (place : ℕ). (place ≡ mid.vacant_key) × (get mid place ≡ None)
          × Updates mid new place (Some hall))
          (λ (place : ℕ). (get old.list place ≡ None) × (it : Hall g.row.S.Denot) × (it.serial ≡ old.next)
          × (old.next < c.made.new.self.next) × opens place c.args.size now it × Updates old.list new place (Some it))
          c.put.result
          (λ place there.
          let at =
          subst (λ (l : Slab (Hall g.row.S.Denot)). (place ≡ l.vacant_key) × (get l place ≡ None)
          × Updates l new place (Some hall)) same there in
          let here : c.vacant_key-place.result ≡ place = c.vacant_key-place.ensures.value ∙ sym at.0 in (
            at.1,
            hall,
            c.in_ok-hall.ensures.serial.0,
            c.in_ok-hall.ensures.serial.1,
            subst (λ (n : ℕ). opens n c.args.size now hall) here c.in_ok-hall.ensures.opens,
            at.2,
          ))
          c.put.ensures.some;
      next = c.made.ensures.next;
      rest = ap (λ (h : Halls g.row.S.Denot). record h { list = new }) c.made.ensures.same;
    }
