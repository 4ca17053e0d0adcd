use Rattle.std.proofs.Common.{◌≡◌, ◌∙◌, ◌<◌, ◌+◌, ◌∷◌, ◌++◌, [], ap, sym, subst, length, List, arith, length-append}
use Rattle.std.proofs.lemmas.Option.{slice_get_within}
use Rattle.hub_trail.specs.Trails.{Entry}
use Rattle.hub_record.specs.EntryLists.{StoredEntries, entry_in, listed}
use Rattle.hub_record.proofs.EntryForms.{Below, as_many, below_more, below_push, with_code, with_form}
use Rattle.hub_record.proofs.entry_list.EntryList.push.Goals as goal

pub store-code-requires-clause-few : goal.store-code-requires-clause-few
store-code-requires-clause-few c =
    let many = as_many c.self.inside.forms.items c.self.inside.codes.items c.self.invariant.0 in
    let seen : length (listed c.self.inside.forms.items c.self.inside.codes.items) ≡ length c.args.self.now.entries = ap
    (λ (r : StoredEntries). length r.entries) c.self.view_is in
    let few = c.requires.few in
    omega (arith, many, seen, few, c.self.invariant.1, c.self.inside.forms.ok.0)

pub push_reserved-requires : goal.push_reserved-requires
push_reserved-requires c =
    let many = as_many c.self.inside.forms.items c.self.inside.codes.items c.self.invariant.0 in
    let seen : length (listed c.self.inside.forms.items c.self.inside.codes.items) ≡ length c.args.self.now.entries = ap
    (λ (r : StoredEntries). length r.entries) c.self.view_is in
    let room = c.requires.room.0 in
    let most = ap (λ (r : StoredEntries). r.most) c.self.view_is in
    omega (arith, many, seen, room, most, c.self.inside.codes.ok.0)

pub invariant_of-self : goal.invariant_of-self
invariant_of-self c =
    let old = c.self.inside.forms.items in
    let codes = c.self.inside.codes.items in
    let new = c.store-code.new.forms.items in
    let more = c.store-code.ensures.more in
    let grown : length new ≡ length (old ++ more.0) = ap length more.1 in
    let sum = length-append old more.0 in
    let few = more.2 in
    let within : c.store-code.result < length new = slice_get_within new c.store-code.result _ c.store-code.ensures.code
    in
    let below = below_push (length new) codes c.store-code.result
    (below_more (length old) (length new) codes (omega (arith, grown, sum)) c.self.invariant.0) within in
    let items : c.push_reserved.new.self.items ≡ codes ++ c.store-code.result ∷ [] = c.push_reserved.ensures.items in
    let count : length c.push_reserved.new.self.items ≡ length codes + 1 = ap length items
    ∙ length-append codes (c.store-code.result ∷ []) in
    let less = c.self.invariant.1 in
    (subst (Below (length new)) (sym items) below, omega (arith, grown, sum, few, count, less))

pub returns : goal.returns
returns c =
    let old = c.self.inside.forms.items in
    let codes = c.self.inside.codes.items in
    let new = c.store-code.new.forms.items in
    let more = c.store-code.ensures.more in
    let grown : length new ≡ length (old ++ more.0) = ap length more.1 in
    let sum = length-append old more.0 in
    let items : c.push_reserved.new.self.items ≡ codes ++ c.store-code.result ∷ [] = c.push_reserved.ensures.items in
    ap (listed new) items
    ∙ with_code new codes c.store-code.result (entry_in c.args.entry) c.store-code.ensures.code
    ∙ ap (λ (es : List Entry). es ++ entry_in c.args.entry ∷ []) (
    ap (λ (fs : List Entry). listed fs codes) more.1 ∙ with_form old more.0 codes c.self.invariant.0
    ∙ ap (λ (r : StoredEntries). r.entries) c.self.view_is)
