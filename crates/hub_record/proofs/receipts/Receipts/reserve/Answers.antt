use Rattle.std.proofs.Common.{◌≡◌, ◌∙◌, length, arith}
use Rattle.hub_record.specs.Receipts.{told_by}
use Rattle.hub_record.proofs.ReceiptForms.{as_many}
use Rattle.hub_record.proofs.receipts.Receipts.reserve.Goals as goal

pub returns-clause-room : goal.returns-clause-room
returns-clause-room c =
    let many = as_many c.self.inside.forms.items c.self.inside.told.items c.self.invariant in
    let count : length (told_by c.reserve-2.new.self.items c.reserve.new.self.items) ≡ length c.self.inside.told.items =
    (λ i. length (told_by (c.reserve-2.ensures.items i) (c.reserve.ensures.items i))) ∙ many in
    let a = c.in_ok-reserve.ensures.ok in
    let b = c.in_ok-reserve-2.ensures.ok in
    let same = c.reserve.ensures.len in
    let few = c.if-len.false in
    let is = c.len.ensures in
    (omega (arith, a, count, same, c.self.inside.told.ok.0), omega (arith, b), omega (arith, few, is))
