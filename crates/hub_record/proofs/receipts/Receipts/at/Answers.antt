use Rattle.std.proofs.Common.{◌≡◌, ◌∙◌, ◌<◌, ap, sym, length, arith, Some}
use Rattle.std.specs.Prelude.{slice_get}
use Rattle.std.proofs.lemmas.Option.{slice_get-get_or}
use Rattle.hub_record.specs.declared.receipts.PlaceCode.{PlaceCode}
use Rattle.hub_record.specs.declared.receipts.Form.{Form}
use Rattle.hub_record.specs.Receipts.{Receipted, told_by}
use Rattle.hub_record.proofs.ReceiptForms.{as_many, below_at, receipt_at}
use Rattle.hub_record.proofs.receipts.Receipts.at.Goals as goal

pub index-told-requires : goal.index-told-requires
index-told-requires c =
    let many = as_many c.self.inside.forms.items c.self.inside.told.items c.self.invariant in
    let seen : length (told_by c.self.inside.forms.items c.self.inside.told.items) ≡ length c.args.self.now.receipts =
    ap (λ (r : Receipted). length r.receipts) c.self.view_is in
    let l = c.requires in
    omega (arith, l, many, seen, c.self.inside.told.ok.0)

pub index-requires : goal.index-requires
index-requires c =
    let told = c.self.inside.told.items in
    let many = as_many c.self.inside.forms.items told c.self.invariant in
    let seen : length (told_by c.self.inside.forms.items told) ≡ length c.args.self.now.receipts = ap
    (λ (r : Receipted). length r.receipts) c.self.view_is in
    let within : c.args.number < length told = (let l = c.requires in omega (arith, l, many, seen)) in
    let at : slice_get told c.args.number ≡ Some c.index-told.result.now = slice_get-get_or told c.args.number
    c.index-told.result.now within ∙ ap (λ (t : PlaceCode). Some t) (sym c.index-told.ensures) in
    let below = below_at (length c.self.inside.forms.items) told c.args.number c.index-told.result.now c.self.invariant
    at in
    omega (arith, below, c.self.inside.forms.ok.0)

pub returns : goal.returns
returns c =
    let told = c.self.inside.told.items in
    let forms = c.self.inside.forms.items in
    let many = as_many forms told c.self.invariant in
    let seen : length (told_by forms told) ≡ length c.args.self.now.receipts = ap (λ (r : Receipted). length r.receipts)
    c.self.view_is in
    let within : c.args.number < length told = (let l = c.requires in omega (arith, l, many, seen)) in
    let t = c.index-told.result.now in
    let at : slice_get told c.args.number ≡ Some t = slice_get-get_or told c.args.number t within
    ∙ ap (λ (x : PlaceCode). Some x) (sym c.index-told.ensures) in
    let below = below_at (length forms) told c.args.number t c.self.invariant at in
    let f = c.index.result.now in
    let form : slice_get forms t.code ≡ Some f = slice_get-get_or forms t.code f below
    ∙ ap (λ (x : Form). Some x) (sym c.index.ensures) in
    ap (λ (r : Receipted). slice_get r.receipts c.args.number) (sym c.self.view_is)
    ∙ receipt_at forms told c.args.number t f c.self.invariant at form
