use Rattle.hub_ledger.proofs.Vocabulary.{◌∙◌, sym, AllBelow}
use Rattle.hub_ledger.proofs.Rising.{before_all, cut_end, not_below, smaller, some_there}
use Rattle.hub_ledger.proofs.seat.cut.Goals as goal

pub pop-requires : goal.pop-requires
pop-requires c = some_there c.above.receipts.receipts c.args.place
    (not_below c.are_below.result c.above.receipts.receipts c.args.place c.are_below.ensures c.above-test.true)

pub above-preserved : goal.above-preserved
above-preserved c =
    let not = not_below c.are_below.result c.above.receipts.receipts c.args.place c.are_below.ensures c.above-test.true
    in
    let end = cut_end c.above.receipts.receipts c.pop.new.self.receipts c.args.receipts.now.receipts c.pop.ensures.0
    c.args.place c.pop.ensures.1 c.above.invariant.rise not c.above.invariant.rest in
    record { rise = end.0; rest = end.1 }

pub above-smaller : goal.above-smaller
above-smaller c = smaller c.above.receipts.receipts c.pop.new.self.receipts c.pop.ensures.0 c.pop.ensures.1

pub returns : goal.returns
returns c =
    let all : AllBelow c.above.receipts.receipts c.args.place = c.are_below.ensures.0 c.above-test.false in
    record {
      rise = c.above.invariant.rise;
      below = all;
      rest = sym (before_all c.above.receipts.receipts c.args.place all) ∙ c.above.invariant.rest;
    }
