use Rattle.std.proofs.Common.{◌≡◌, ap, length, arith}
use Rattle.hub_record.specs.Receipts.{Receipted, told_by}
use Rattle.hub_record.proofs.ReceiptForms.{as_many}
use Rattle.hub_record.proofs.receipts.Receipts.len.Goals as goal

pub returns : goal.returns
returns c =
    let many = as_many c.self.inside.forms.items c.self.inside.told.items c.self.invariant in
    let seen : length (told_by c.self.inside.forms.items c.self.inside.told.items) ≡ length c.args.self.now.receipts =
    ap (λ (r : Receipted). length r.receipts) c.self.view_is in
    let is = c.len.ensures in
    omega (arith, many, seen, is, c.self.inside.told.ok.0)
