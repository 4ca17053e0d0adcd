use Rattle.hub_ledger.proofs.Vocabulary.{◌≡◌, ◌∙◌, ◌<◌, ◌+◌, ◌-◌, length, subst, sym, refl, arith, None, Some}
use Rattle.hub_ledger.proofs.Vocabulary.{slice_get, IsTold, before, receipts_of}
use Rattle.hub_ledger.proofs.Stripping.{IsWrongFrom, first_is, none_past, right_here, same_below, told_same, wrong_here}
use Rattle.hub_ledger.proofs.closing.first_wrong.Goals as goal

pub places-init : goal.places-init
places-init g c = record {
  within = omega (arith, c.len-place.ensures);
  same = refl;
  wrong = subst (λ n. IsWrongFrom c.args.entries.now.entries (receipts_of c.args.seats.now) n None)
      (sym c.len-place.ensures) (none_past c.args.entries.now.entries (receipts_of c.args.seats.now));
  handed = refl;
  total = refl;
}

pub places-preserved : goal.places-preserved
places-preserved g c =
    let inv = c.places.invariant in
    let es = c.args.entries.now.entries in
    let rs = receipts_of c.args.seats.now in
    let cur = receipts_of c.places.seats in
    let p = c.places.place - 1 in
    let up : c.places.place ≡ p + 1 = (let t = c.places-test.true in omega (arith, t)) in
    let within : p < length es = (let w = inv.within in omega (arith, w, up)) in
    let e = c.at.result.now in
    let at : slice_get es p ≡ Some e = c.at.ensures in
    let same : before (p + 1) cur ≡ before (p + 1) rs = subst (λ n. before n cur ≡ before n rs) up inv.same in
    record {
      within = omega (arith, within);
      same = same_below cur rs (receipts_of c.strip_all.new.seats) p same c.strip_all.ensures.rest;
      wrong = right_here es rs p e c.places.wrong at
          (told_same cur rs p e same (c.strip_all.ensures.told.0 c.if-not-strip_all.false))
          (subst (λ n. IsWrongFrom es rs n c.places.wrong) up inv.wrong);
      handed = c.strip_all.ensures.handed ∙ inv.handed;
      total = (let t = inv.total in let here = c.strip_all.ensures.total in omega (arith, t, here));
    }

pub places-preserved-then-not-strip_all : goal.places-preserved-then-not-strip_all
places-preserved-then-not-strip_all g c =
    let inv = c.places.invariant in
    let es = c.args.entries.now.entries in
    let rs = receipts_of c.args.seats.now in
    let cur = receipts_of c.places.seats in
    let p = c.places.place - 1 in
    let up : c.places.place ≡ p + 1 = (let t = c.places-test.true in omega (arith, t)) in
    let within : p < length es = (let w = inv.within in omega (arith, w, up)) in
    let e = c.at.result.now in
    let at : slice_get es p ≡ Some e = c.at.ensures in
    let same : before (p + 1) cur ≡ before (p + 1) rs = subst (λ n. before n cur ≡ before n rs) up inv.same in
    record {
      within = omega (arith, within);
      same = same_below cur rs (receipts_of c.strip_all.new.seats) p same c.strip_all.ensures.rest;
      wrong = wrong_here es rs p e at
          (λ (told : IsTold p e rs).
          (let is = c.strip_all.ensures.told.1 (told_same rs cur p e (sym same) told) in absurd
          (cc (is, c.if-not-strip_all.true))));
      handed = c.strip_all.ensures.handed ∙ inv.handed;
      total = (let t = inv.total in let here = c.strip_all.ensures.total in omega (arith, t, here));
    }

pub returns : goal.returns
returns g c =
    let zero : c.places.place ≡ 0 = (let t = c.places-test.false in omega (arith, t)) in
    record {
      wrong = first_is c.args.entries.now.entries (receipts_of c.args.seats.now) c.places.wrong
          (subst (λ n. IsWrongFrom c.args.entries.now.entries (receipts_of c.args.seats.now) n c.places.wrong) zero
          c.places.invariant.wrong);
      handed = c.places.invariant.handed;
      total = c.places.invariant.total;
    }
