use Rattle.std.proofs.Common.{◌≡◌, ◌∙◌, ◌<◌, ◌∷◌, ◌++◌, [], ap, sym, subst, length, List, arith, length-append}
use Rattle.std.proofs.lemmas.Option.{slice_get_within}
use Rattle.hub_record.specs.declared.receipts.Form.{Form}
use Rattle.hub_record.specs.Receipts.{Receipt, Receipted, receipt_of, told_by}
use Rattle.hub_record.proofs.ReceiptForms.{Below, as_many, below_more, below_push, with_form, with_told}
use Rattle.hub_record.proofs.receipts.Receipts.push.Goals as goal

pub push_reserved-requires : goal.push_reserved-requires
push_reserved-requires c =
    let many = as_many c.self.inside.forms.items c.self.inside.told.items c.self.invariant in
    let seen : length (told_by c.self.inside.forms.items c.self.inside.told.items) ≡ length c.args.self.now.receipts =
    ap (λ (r : Receipted). length r.receipts) c.self.view_is in
    let room = c.requires.room.0 in
    let most = ap (λ (r : Receipted). r.most) c.self.view_is in
    omega (arith, many, seen, room, most, c.self.inside.told.ok.0)

pub invariant_of-self : goal.invariant_of-self
invariant_of-self c =
    let old = c.self.inside.forms.items in
    let told = c.self.inside.told.items in
    let new = c.store-code.new.forms.items in
    let more = c.store-code.ensures.more in
    let grown : length new ≡ length (old ++ more.0) = ap length more.1 in
    let sum = length-append old more.0 in
    let within : c.store-code.result < length new = slice_get_within new c.store-code.result _ c.store-code.ensures.code
    in
    let below = below_push (length new) told _
    (below_more (length old) (length new) told (omega (arith, grown, sum)) c.self.invariant) within in
    subst (Below (length new)) (sym c.push_reserved.ensures.items) below

pub returns : goal.returns
returns c =
    let old = c.self.inside.forms.items in
    let told = c.self.inside.told.items in
    let new = c.store-code.new.forms.items in
    let more = c.store-code.ensures.more in
    let form : Form = record { event = c.args.event; reply = c.args.reply } in
    ap (told_by new) c.push_reserved.ensures.items
    ∙ with_told new told _ form c.store-code.ensures.code
    ∙ ap (λ (rs : List Receipt). rs ++ receipt_of c.args.place form ∷ []) (
    ap (λ (fs : List Form). told_by fs told) more.1 ∙ with_form old more.0 told c.self.invariant
    ∙ ap (λ (r : Receipted). r.receipts) c.self.view_is)
