use Rattle.hub_ledger.proofs.Vocabulary.{◌≡◌, ◌∙◌, ◌-◌, Some, ap, sym, subst, length, true, ◌↔◌, nat_lt, slice_get}
use Rattle.hub_ledger.proofs.Vocabulary.{AllBelow}
use Rattle.hub_ledger.proofs.Rising.{last_tells}
use Rattle.hub_ledger.proofs.seat.are_below.Goals as goal

pub returns-else-count-eq0 : goal.returns-else-count-eq0
returns-else-count-eq0 c =
    let rs = c.args.receipts.now.receipts in
    let at : slice_get rs (length rs - 1) ≡ Some c.at.result = ap (λ n. slice_get rs (n - 1)) (sym c.len-count.ensures)
    ∙ c.at.ensures in
    subst (λ n. (nat_lt n c.args.place ≡ true) ↔ AllBelow rs c.args.place) (sym c.place.ensures)
    (last_tells rs c.at.result c.args.place c.requires at)
