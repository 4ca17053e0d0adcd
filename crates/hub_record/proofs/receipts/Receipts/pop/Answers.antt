use Rattle.std.proofs.Common.{◌≡◌, ◌∙◌, ◌<◌, ap, sym, length, arith}
use Rattle.std.specs.Prelude.{vec_len}
use Rattle.hub_record.specs.Receipts.{Receipted, told_by}
use Rattle.hub_record.proofs.ReceiptForms.{as_many, popped}
use Rattle.hub_record.proofs.receipts.Receipts.pop.Goals as goal

pub returns : goal.returns
returns c =
    let told = c.self.inside.told.items in
    let forms = c.self.inside.forms.items in
    let many = as_many forms told c.self.invariant in
    let seen : length (told_by forms told) ≡ length c.args.self.now.receipts = ap (λ (r : Receipted). length r.receipts)
    c.self.view_is in
    let some = c.requires in
    let there : 0 < vec_len c.self.inside.told = omega (arith, many, seen, some, c.self.inside.told.ok.0) in
    let p = popped forms told c.pop-last.new.self.items c.pop-last.result c.self.invariant c.pop-last.ensures.items
    (c.pop-last.ensures.variant.1 there) in
    (p.0, ap (λ (r : Receipted). r.receipts) (sym c.self.view_is) ∙ p.1)
