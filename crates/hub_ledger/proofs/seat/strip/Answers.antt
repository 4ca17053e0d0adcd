use Rattle.hub_ledger.proofs.Vocabulary.{◌≡◌, ◌∙◌, ◌-◌, ◌∷◌, ◌++◌, [], Some, ap, sym, refl, arith, length, slice_get}
use Rattle.hub_ledger.proofs.Vocabulary.{Receipt}
use Rattle.hub_ledger.proofs.Rising.{last_one, not_below, some_there, strip_none, strip_one}
use Rattle.hub_ledger.proofs.seat.strip.Goals as goal

pub returns-then-are_below : goal.returns-then-are_below
returns-then-are_below c =
    let s = strip_none c.args.receipts.now.receipts c.cut.new.receipts.receipts c.args.place c.args.entry.now
    c.cut.ensures.rest (c.are_below.ensures.0 c.if-are_below.true) in
    record {
      rise = c.cut.ensures.rise;
      rest = s.0;
      times = s.1;
      once = omega arith;
      right = ((λ is. s.2), (λ of. refl));
    }

pub pop-requires : goal.pop-requires
pop-requires c = some_there c.cut.new.receipts.receipts c.args.place
    (not_below c.are_below.result c.cut.new.receipts.receipts c.args.place c.are_below.ensures c.if-are_below.false)

pub returns : goal.returns
returns c =
    let mid = c.cut.new.receipts.receipts in
    let new = c.pop.new.self.receipts in
    let r = c.at.result in
    let not = not_below c.are_below.result mid c.args.place c.are_below.ensures c.if-are_below.false in
    let told : slice_get mid (length mid - 1) ≡ Some r = ap (λ n. slice_get mid (n - 1)) (sym c.len.ensures)
    ∙ c.at.ensures in
    let both : Some c.pop.ensures.0 ≡ Some r = sym (last_one mid new c.pop.ensures.0 c.pop.ensures.1) ∙ told in
    let same : c.pop.ensures.0 ≡ r = cc (both) in
    let end : mid ≡ new ++ r ∷ [] = c.pop.ensures.1 ∙ ap (λ (x : Receipt). new ++ x ∷ []) same in
    let s = strip_one c.args.receipts.now.receipts mid new r c.args.place c.args.entry.now c.cut.ensures.rest end
    c.cut.ensures.rise c.cut.ensures.below not in
    record {
      rise = s.0;
      rest = s.1;
      times = s.2;
      once = omega arith;
      right = ((λ is. s.3 (c.is_of-is_right.ensures.0 is)), (λ of. c.is_of-is_right.ensures.1 (s.4 of)));
    }
