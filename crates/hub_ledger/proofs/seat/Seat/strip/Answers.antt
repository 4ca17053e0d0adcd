use Rattle.hub_ledger.proofs.Vocabulary.{◌≡◌, ◌∙◌, ◌≤◌, List, length, ap, subst, arith, true, ◌↔◌, Receipt, Sitting}
use Rattle.hub_ledger.proofs.Vocabulary.{AreOf, before, times}
use Rattle.hub_ledger.specs.Seats.{handed_in}
use Rattle.hub_ledger.proofs.Rising.{before_le}
use Rattle.hub_ledger.proofs.seat.Seat.strip.Goals as goal

pub overflow_sub-had : goal.overflow_sub-had
overflow_sub-had g c =
    let fewer : length c.strip-found.new.receipts.receipts ≤ length c.self.inside.told.receipts = rw
    c.strip-found.ensures.rest (before_le c.args.place c.self.inside.told.receipts) in
    omega (arith, fewer, c.len-had.ensures, c.len.ensures)

pub invariant_of-self : goal.invariant_of-self
invariant_of-self g c =
    let i = c.self.invariant in
    let fewer : length c.strip-found.new.receipts.receipts ≤ length c.self.inside.told.receipts = rw
    c.strip-found.ensures.rest (before_le c.args.place c.self.inside.told.receipts) in (
      i.0,
      c.sub.ensures.parts ∙ i.1,
      (let a = c.sub.ensures.amount in omega (arith, a, i.2, fewer, c.len-had.ensures, c.len.ensures)),
      c.strip-found.ensures.rise,
      omega (arith, i.4, fewer),
    )

pub returns : goal.returns
returns g c =
    let was : c.self.inside.told.receipts ≡ c.args.self.now.receipts = ap (λ (s : Sitting). s.receipts) c.self.view_is
    in
    let n : length c.self.inside.told.receipts ≡ length c.args.self.now.receipts = ap (λ (x : List Receipt). length x)
    was in
    let fewer : length c.strip-found.new.receipts.receipts ≤ length c.self.inside.told.receipts = rw
    c.strip-found.ensures.rest (before_le c.args.place c.self.inside.told.receipts) in
    let less = c.sub.ensures.amount in
    let handed : handed_in c.sub.new.share.amount ≡ handed_in c.self.inside.share.amount = omega
    (arith, less, c.self.invariant.2, fewer, c.len-had.ensures, c.len.ensures) in
    record {
      rest = c.strip-found.ensures.rest ∙ ap (before c.args.place) was;
      handed = handed ∙ ap (λ (s : Sitting). s.handed) c.self.view_is;
      total = (let t = c.sub.ensures.total in omega (arith, t, n, fewer, c.len-had.ensures, c.len.ensures));
      times = c.strip-found.ensures.times ∙ ap (times c.args.place) was;
      once = c.strip-found.ensures.once;
      right = subst (λ (x : List Receipt). (c.strip-found.result.1 ≡ true) ↔ AreOf c.args.place c.args.entry.now x) was
          c.strip-found.ensures.right;
    }
