use Rattle.hub_ledger.proofs.Vocabulary.{◌≡◌, length, ap, arith, Sitting}
use Rattle.hub_ledger.proofs.Tellings.{handed_pushed, pushed}
use Rattle.hub_ledger.proofs.closing.count.Goals as goal

pub returns-in_default : goal.returns-in_default
returns-in_default g c = λ all. absurd
    (let none = rw c.in_default.is at c.pop.ensures.cases in omega (arith, none.0, all, c.requires))

pub merging-init : goal.merging-init
merging-init g c =
    let p = pushed c.args.seats.items c.pop.new.self.items c.in-Some.first c.in-Some.ensures.items in
    let n : length c.first.inside.told.receipts ≡ length c.in-Some.first.receipts = ap
    (λ (s : Sitting). length s.receipts) c.first.view_is in
    let more = handed_pushed c.args.seats.items c.pop.new.self.items c.in-Some.first c.in-Some.ensures.items in
    let h = ap (λ (s : Sitting). s.handed) c.first.view_is in
    let i = c.first.invariant in
    record { parts = omega (arith, p.0, i.1); amount = omega (arith, p.1, i.2, n, more, h) }

pub merging-preserved : goal.merging-preserved
merging-preserved g c =
    let p = pushed c.merging.rest.items c.pop-in-merging.new.self.items c.in-Some-pop.seat c.in-Some-pop.ensures.items
    in
    let n : length c.seat.inside.told.receipts ≡ length c.in-Some-pop.seat.receipts = ap
    (λ (s : Sitting). length s.receipts) c.seat.view_is in
    let more = handed_pushed c.merging.rest.items c.pop-in-merging.new.self.items c.in-Some-pop.seat
    c.in-Some-pop.ensures.items in
    let h = ap (λ (s : Sitting). s.handed) c.seat.view_is in
    let i = c.seat.invariant in
    let v = c.merging.invariant in
    record {
      parts = omega (arith, p.0, i.1, v.parts, c.merge.ensures.parts);
      amount = omega (arith, p.1, i.2, n, more, h, v.amount, c.merge.ensures.amount);
    }
