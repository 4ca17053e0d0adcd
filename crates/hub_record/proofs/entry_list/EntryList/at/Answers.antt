use Rattle.std.proofs.Common.{◌≡◌, ◌∙◌, ◌<◌, ℕ, ap, sym, length, arith, Some}
use Rattle.std.specs.Prelude.{slice_get}
use Rattle.std.proofs.lemmas.Option.{slice_get-get_or}
use Rattle.hub_trail.specs.Trails.{Entry}
use Rattle.hub_record.specs.EntryLists.{StoredEntries, listed}
use Rattle.hub_record.proofs.EntryForms.{as_many, below_at, entry_at}
use Rattle.hub_record.proofs.entry_list.EntryList.at.Goals as goal

pub index-requires : goal.index-requires
index-requires c =
    let many = as_many c.self.inside.forms.items c.self.inside.codes.items c.self.invariant.0 in
    let seen : length (listed c.self.inside.forms.items c.self.inside.codes.items) ≡ length c.args.self.now.entries = ap
    (λ (r : StoredEntries). length r.entries) c.self.view_is in
    let l = c.requires in
    omega (arith, l, many, seen, c.self.inside.codes.ok.0)

pub index-requires-2 : goal.index-requires-2
index-requires-2 c =
    let codes = c.self.inside.codes.items in
    let many = as_many c.self.inside.forms.items codes c.self.invariant.0 in
    let seen : length (listed c.self.inside.forms.items codes) ≡ length c.args.self.now.entries = ap
    (λ (r : StoredEntries). length r.entries) c.self.view_is in
    let within : c.args.place < length codes = (let l = c.requires in omega (arith, l, many, seen)) in
    let at : slice_get codes c.args.place ≡ Some c.index.result.now = slice_get-get_or codes c.args.place
    c.index.result.now within ∙ ap (λ (n : ℕ). Some n) (sym c.index.ensures) in
    let below = below_at (length c.self.inside.forms.items) codes c.args.place c.index.result.now c.self.invariant.0 at
    in
    omega (arith, below, c.self.inside.forms.ok.0)

pub returns : goal.returns
returns c =
    let codes = c.self.inside.codes.items in
    let forms = c.self.inside.forms.items in
    let many = as_many forms codes c.self.invariant.0 in
    let seen : length (listed forms codes) ≡ length c.args.self.now.entries =
    ap (λ (r : StoredEntries). length r.entries) c.self.view_is in
    let within : c.args.place < length codes = (let l = c.requires in omega (arith, l, many, seen)) in
    let code = c.index.result.now in
    let at : slice_get codes c.args.place ≡ Some code = slice_get-get_or codes c.args.place code within
    ∙ ap (λ (n : ℕ). Some n) (sym c.index.ensures) in
    let below = below_at (length forms) codes c.args.place code c.self.invariant.0 at in
    let form : slice_get forms code ≡ Some c.index-2.result.now = slice_get-get_or forms code c.index-2.result.now below
    ∙ ap (λ (e : Entry). Some e) (sym c.index-2.ensures) in
    ap (λ (r : StoredEntries). slice_get r.entries c.args.place) (sym c.self.view_is)
    ∙ entry_at forms codes c.args.place code c.index-2.result.now c.self.invariant.0 at form
