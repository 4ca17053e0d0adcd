use Rattle.std.proofs.Common.{◌≡◌, ◌∙◌, length, arith}
use Rattle.hub_record.specs.EntryLists.{listed}
use Rattle.hub_record.proofs.EntryForms.{as_many}
use Rattle.hub_record.proofs.entry_list.EntryList.reserve.Goals as goal

pub returns-clause-room : goal.returns-clause-room
returns-clause-room c =
    let many = as_many c.self.inside.forms.items c.self.inside.codes.items c.self.invariant.0 in
    let count : length (listed c.reserve-2.new.self.items c.reserve.new.self.items) ≡ length c.self.inside.codes.items =
    (λ i. length (listed (c.reserve-2.ensures.items i) (c.reserve.ensures.items i))) ∙ many in
    let a = c.in_ok-reserve.ensures.ok in
    let b = c.in_ok-reserve-2.ensures.ok in
    let same = c.reserve.ensures.len in
    (omega (arith, a, count, same, c.self.inside.codes.ok.0), omega (arith, b))
