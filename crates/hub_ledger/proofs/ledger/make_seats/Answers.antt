use Rattle.hub_ledger.proofs.Vocabulary.{◌∙◌, ap, sym, arith, Sitting}
use Rattle.hub_ledger.proofs.Tellings.{none_asks, none_told, numbered, pushed}
use Rattle.hub_ledger.proofs.ledger.make_seats.Goals as goal

pub seats-preserved : goal.seats-preserved
seats-preserved g c =
    let inv = c.seats.invariant in
    let more = c.in_ok-push.ensures.items in
    let p = pushed c.push.new.self.items c.seats.made.items c.make_seat.result more in
    let left = c.split_off-share.ensures.parts_left in
    let amount = c.split_off-share.ensures.amount_left in
    record {
      made = omega (arith, p.0, inv.made);
      told = none_told c.push.new.self.items c.seats.made.items c.make_seat.result more inv.told
          (ap (λ (s : Sitting). s.receipts) c.make_seat.ensures);
      numbers = numbered c.push.new.self.items c.seats.made.items c.make_seat.result more inv.numbers
          (ap (λ (s : Sitting). s.number) c.make_seat.ensures ∙ sym inv.made);
      asks = none_asks c.push.new.self.items c.seats.made.items c.make_seat.result more inv.asks
          (ap (λ (s : Sitting). s.asks) c.make_seat.ensures);
      parts = omega (arith, left, inv.parts);
      amount = omega (arith, amount, inv.amount);
    }
