use Rattle.std.proofs.Common.{◌≡◌, ap, length, arith}
use Rattle.hub_record.specs.EntryLists.{StoredEntries, listed}
use Rattle.hub_record.proofs.EntryForms.{as_many}
use Rattle.hub_record.proofs.entry_list.EntryList.len.Goals as goal

pub returns : goal.returns
returns c =
    let many = as_many c.self.inside.forms.items c.self.inside.codes.items c.self.invariant.0 in
    let seen : length (listed c.self.inside.forms.items c.self.inside.codes.items) ≡ length c.args.self.now.entries = ap
    (λ (r : StoredEntries). length r.entries) c.self.view_is in
    let is = c.len.ensures in
    omega (arith, many, seen, is, c.self.inside.codes.ok.0)
